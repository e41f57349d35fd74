-- The text of a node, as it is filled in.
use Rattle.std.proofs.Common.{◌≡◌, ℕ, ◌+◌, ◌-◌, ◌*◌, ◌<◌, ◌≤◌, List, [], ◌∷◌, ◌++◌, length, take, get_or, refl, sym, ap, ◌∙◌, append_assoc, arith}
use Rattle.std.specs.List.{flat_map}
use Rattle.std.proofs.lemmas.List.{append-nil, take_more, take_all}
use Rattle.std.proofs.lemmas.List.Concat.{flat_map-append}
use Rattle.std.proofs.lemmas.List.Edits.{length-paste}
use Rattle.std.proofs.lemmas.Slice.{take-put_mid, put_mid-paste}
use borrow.Rule.Slice.PartMut.{put_mid}
use Rattle.xdr_core.specs.Items.{spell_word}
use Rattle.abs_text.specs.Text.{node_text}

-- digests one after the other
abbrev all_of : List (List ℕ) → List ℕ
all_of ds = flat_map (λ d. d) ds

all_more : (ds : List (List ℕ)) (i : ℕ) → i < length ds → all_of (take (i + 1) ds) ≡ all_of (take i ds) ++ get_or ds i []
all_more ds i lt =
    ap all_of (take_more ds i [] lt)
    ∙ flat_map-append (λ (d : List ℕ). d) (take i ds) (get_or ds i [] ∷ [])
    ∙ ap (λ (t : List ℕ). all_of (take i ds) ++ t) (append-nil (get_or ds i []))

pub front_more : (text one two three piece : List ℕ) (below : List (List ℕ)) (at i : ℕ) → at ≡ 12 + 32 * i → i < length below → length below ≡ 16 → length text ≡ 524 → piece ≡ get_or below i [] → length piece ≡ 32
    → take at text ≡ one ++ (two ++ (three ++ flat_map (λ d. d) (take i below)))
    → take (at + 32) (put_mid at (at + 32 - at) text piece) ≡ one ++ (two ++ (three ++ flat_map (λ d. d) (take (i + 1) below)))
front_more text one two three piece below at i place lt count size is wide front =
    let n : at + 32 ≡ at + length piece = omega (arith, wide) in
    let within : at ≤ length text = omega (arith, place, lt, count, size) in
    take-put_mid at (at + 32 - at) text piece (at + 32) n within
    ∙ ap (λ (t : List ℕ). t ++ piece) front
    ∙ append_assoc one (two ++ (three ++ all_of (take i below))) piece
    ∙ ap (λ (t : List ℕ). one ++ t) (append_assoc two (three ++ all_of (take i below)) piece
    ∙ ap (λ (t : List ℕ). two ++ t) (append_assoc three (all_of (take i below)) piece
    ∙ ap (λ (t : List ℕ). three ++ t) (ap (λ (p : List ℕ). all_of (take i below) ++ p) is ∙ sym (all_more below i lt))))

pub text_whole : (text : List ℕ) (below : List (List ℕ)) (level number at i : ℕ) → at ≡ 12 + 32 * i → length below ≤ i → i ≤ length below → length below ≡ 16 → length text ≡ 524
    → take at text ≡ spell_word 1 ++ (spell_word level ++ (spell_word number ++ flat_map (λ d. d) (take i below))) → text ≡ node_text level number below
text_whole text below level number at i place high low count size front =
    sym (take_all at text (omega (arith, place, high, count, size)))
    ∙ front
    ∙ ap (λ (ds : List (List ℕ)). spell_word 1 ++ (spell_word level ++ (spell_word number ++ flat_map (λ d. d) ds))) (take_all i below high)

pub long_still : (text piece : List ℕ) (at : ℕ) → at + 32 ≤ length text → length piece ≡ 32 → length (put_mid at (at + 32 - at) text piece) ≡ length text
long_still text piece at within wide =
    let k : 32 ≡ at + 32 - at = omega arith in
    ap length (put_mid-paste at (at + 32 - at) text piece piece 32 refl k (sym wide))
    ∙ length-paste text at piece 32 within (omega (arith, wide))
