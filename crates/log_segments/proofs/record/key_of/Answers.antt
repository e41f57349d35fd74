use Rattle.std.proofs.Common.{rules, ◌≡◌, ◌∙◌, ℕ, ◌+◌, ◌*◌, ◌≤◌, List, min, ap, length, drop, take, get_or, arith}
use Rattle.std.proofs.lemmas.List.{take_min, take-take, length-drop}
use Rattle.log_segments.specs.Record.{key_of}
use Rattle.log_segments.proofs.record.key_of.Goals as goal

cut : (b : List ℕ) (size n : ℕ) → length b ≡ 512 → n ≡ min size 509
    → take n (take 509 (drop 3 b)) ≡ take size (drop 3 b)
cut b size n whole is =
    let rest : length (drop 3 b) ≡ 509 = omega (arith, length-drop 3 b) in
    let within : n ≤ 509 = omega arith in
    let same : n ≡ min size (length (drop 3 b)) = omega arith in
    take-take n 509 (drop 3 b) within ∙ (ap (λ m. take m (drop 3 b)) same ∙ take_min size (drop 3 b))

pub returns : goal.returns
unfolding key_of
returns c =
    let b = c.args.block.now in
    rw (← cut b (256 * get_or b 1 0 + get_or b 2 0) c.min.result (search rules) (search rules)) c.from_slice.ensures
