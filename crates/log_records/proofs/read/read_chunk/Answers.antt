use Rattle.std.proofs.Common.{◌≡◌, ◌∙◌, ℕ, ◌+◌, ◌-◌, ◌*◌, List, min, ap, length, drop, take, get_or, arith, rules}
use Rattle.std.proofs.lemmas.List.{take_min, take_all, length-drop}
use Rattle.log_records.specs.Layout.{chunk_in}
use Rattle.log_records.proofs.read.read_chunk.Goals as goal

cut : (value : List ℕ) (size n : ℕ) → n ≡ min size (length value - 2)
    → take n (take (length value - 2) (drop 2 value)) ≡ take size (drop 2 value)
cut value size n is =
    let long : length (drop 2 value) ≡ length value - 2 = omega (arith, length-drop 2 value) in
    let same : n ≡ min size (length (drop 2 value)) = omega arith in
    ap (take n) (take_all (length value - 2) (drop 2 value) (omega arith)) ∙ (ap (λ m. take m (drop 2 value)) same
    ∙ take_min size (drop 2 value))

pub returns : goal.returns
unfolding chunk_in
returns c =
    let v = c.value-value.result.now in
    c.in_ok-from_slice.ensures.items ∙ (cut v (256 * get_or v 0 0 + get_or v 1 0) c.min.result (search rules)
    ∙ ap chunk_in c.value-value.ensures.value)
