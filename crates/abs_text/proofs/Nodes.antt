-- The text of a node gives its digests back.
use Rattle.std.proofs.Common.{◌≡◌, ℕ, zero, suc, List, [], ◌∷◌, ◌++◌, length, take, drop, refl, ◌∙◌, ap, subst, arith}
use Rattle.std.specs.List.{All, flat_map}
use Rattle.std.proofs.lemmas.List.Elements.{All-head, All-tail}
use Rattle.xdr_core.specs.Items.{spell_word}
use Rattle.abs_text.specs.Text.{node_text, chunks, node_parts}

take_front : (xs ys : List ℕ) → take (length xs) (xs ++ ys) ≡ xs
take_front [] ys = refl
take_front (x ∷ xs) ys = ap (λ zs. x ∷ zs) (take_front xs ys)

drop_front : (xs ys : List ℕ) → drop (length xs) (xs ++ ys) ≡ ys
drop_front [] ys = refl
drop_front (x ∷ xs) ys = drop_front xs ys

chunks_back : (n : ℕ) (ds : List (List ℕ)) → length ds ≡ n → All (λ d. length d ≡ 32) ds →
    chunks n (flat_map (λ (d : List ℕ). d) ds) ≡ ds
chunks_back zero [] e h = refl
chunks_back zero (d ∷ ds) e h = absurd (omega arith)
chunks_back (suc n) [] e h = absurd (omega arith)
chunks_back (suc n) (d ∷ ds) e h =
    let P : List ℕ → Type 0 = λ d. length d ≡ 32 in
    let long : length d ≡ 32 = All-head P d ds h in
    let rest = flat_map (λ (d : List ℕ). d) ds in
    let one : take 32 (d ++ rest) ≡ d = subst (λ n. take n (d ++ rest) ≡ d) long (take_front d rest) in
    let two : drop 32 (d ++ rest) ≡ rest = subst (λ n. drop n (d ++ rest) ≡ rest) long (drop_front d rest) in
    let more : chunks n (drop 32 (d ++ rest)) ≡ ds = ap (chunks n) two
    ∙ chunks_back n ds (omega arith) (All-tail P d ds h) in
    cc (one, more)

pub parts_back : (l k : ℕ) (ds : List (List ℕ)) → length ds ≡ 16 → All (λ d. length d ≡ 32) ds →
    node_parts (node_text l k ds) ≡ ds
unfolding spell_word
parts_back l k ds e h = chunks_back 16 ds e h
