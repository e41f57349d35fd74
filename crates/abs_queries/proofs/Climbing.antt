-- one step to the parent
use Rattle.std.proofs.Common.{◌≡◌, ◌≢◌, ℕ, suc, ◌+◌, ◌-◌, ◌<◌, List, Bool, ◌||◌, ◌∙◌, ap, arith}
use Rattle.std.proofs.lemmas.Bool.{ne_eqb}
use Rattle.abs_model.specs.declared.Entry.{Entry}
use Rattle.abs_model.specs.Array.{parent, climbs_to}

pub climbs_on : (A : List Entry) (i steps step here : ℕ) → step < steps → here ≢ i →
    climbs_to A i (steps - step) here ≡ climbs_to A i (steps - (step + 1)) (parent A here)
climbs_on A i steps step here before other =
    let left : steps - step ≡ suc (steps - (step + 1)) = omega arith in
    ap (λ (k : ℕ). climbs_to A i k here) left ∙
    ap (λ (b : Bool). b || climbs_to A i (steps - (step + 1)) (parent A here)) (ne_eqb here i other)
