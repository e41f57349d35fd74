use Rattle.std.proofs.Common.{◌≡◌, ◌∙◌, ℕ, ◌-◌, List, min, ap, length, drop, take, arith, rules}
use Rattle.std.proofs.lemmas.List.{take_min, take_all, length-drop}
use Rattle.log_files.proofs.read.cut.Goals as goal

cut : (xs : List ℕ) (start count n : ℕ) → n ≡ min count (length xs - start)
    → take n (take (length xs - start) (drop start xs)) ≡ take count (drop start xs)
cut xs start count n is =
    let long : length (drop start xs) ≡ length xs - start = omega (arith, length-drop start xs) in
    let same : n ≡ min count (length (drop start xs)) = omega arith in
    ap (take n) (take_all (length xs - start) (drop start xs) (omega arith))
    ∙ (ap (λ m. take m (drop start xs)) same ∙ take_min count (drop start xs))

pub returns : goal.returns
returns c = c.in_ok-from_slice.ensures.items
    ∙ cut c.args.bytes.now c.args.start c.args.count c.min.result (search rules)
