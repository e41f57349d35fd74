use Rattle.std.proofs.Common.{◌≡◌, ℕ, ◌<◌, ◌≤◌, List, [], ◌∷◌, length, get_or, sym, ap, ◌∙◌, arith, string_bytes, codes}
use Rattle.std.specs.Prelude.{String}
use Rattle.std.specs.Global.{Global}
use Rattle.std.specs.Str.{bytes_eq}
use Rattle.std.proofs.lemmas.Slice.Eq.{bytes_eq-Decides}
use Rattle.basefs.proofs.program.is_replay.Goals as goal

one_word : (words : List (String Global)) (w : String Global) → 1 ≤ length words → length words < 2 → w ≡ get_or words 0 w → words ≡ w ∷ []
one_word [] w low high e = absurd (omega arith)
one_word (x ∷ []) w low high e = ap (λ (y : String Global). y ∷ []) (sym e)
one_word (x ∷ y ∷ words) w low high e = absurd (omega arith)

pub returns-in-len1 : goal.returns-in-len1
returns-in-len1 c =
    let w = c.word-item.result in
    let one = one_word c.args.words.now w c.in-len1.len_at_least c.in-len1.len_below c.word-item.is in
    let test : c.eq.result ≡ bytes_eq (string_bytes w) (codes "replay") = c.eq.ensures ∙ ap (λ (t : List ℕ). bytes_eq t (codes "replay")) c.as_str.ensures.value in
    let decides = bytes_eq-Decides (string_bytes w) (codes "replay") in
    rw (one, test) (
      λ h. ap (λ (t : List ℕ). t ∷ []) (decides.0 h),
      λ h. decides.1 (let g : string_bytes w ∷ [] ≡ codes "replay" ∷ [] = h in cc),
    )
