-- The clauses of a cast, over plain values.
use Rattle.std.proofs.Common.{◌≡◌, ◌≢◌, ℕ, true, false, Option, Some, None, refl, arith}
use Rattle.std.specs.Option.{is_some}
use Rattle.std.specs.Ordering.{nat_cmp, is_eq}
use Rattle.std.specs.BTreeMap as ordered
use Rattle.std.proofs.lemmas.Bool.Decides.{nat_tests}

pub some_value : {X : Type 0} (o : Option X) → is_some o ≡ true → (v : X) × (o ≡ Some v)
some_value None e = absurd (cc)
some_value (Some v) e = (v, refl)

pub no_value : {X : Type 0} (o : Option X) → is_some o ≡ false → o ≡ None
no_value None e = refl
no_value (Some v) e = absurd (cc)

pub not_at : (p q : ℕ) → q ≢ p → ordered.is_at (nat_cmp p) q ≡ false
not_at p q ne = (let t : is_eq (nat_cmp p q) ≡ false = grind (arith, nat_tests) in t)
