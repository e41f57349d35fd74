-- The blocks that a medium over memory keeps.
use Rattle.std.proofs.Common.{◌≡◌, ℕ, true, false, cond, Option, Some, Result, Ok, Err, sym, subst, ◌∙◌}
use Rattle.std.specs.Prelude.{OnOk, OnErr}
use Rattle.std.specs.BTreeMap.{BTreeMap, get, Updates, IsUnchanged, is_at}
use Rattle.std.specs.Ordering.{nat_cmp}
use Rattle.std.specs.Option.{ForSome}

-- what holds of a value holds of each value that an option with it has
pub only : {X : Type 0} (P : X → Type 0) (value : X) → P value → ForSome (Some value) P
only P value holds x is = subst P (let e : value ≡ x = cc in e) holds

-- what holds of each value of a map holds after one was put in its place or taken away
pub all_after : {X : Type 0} (P : X → Type 0) (old new : BTreeMap ℕ X) (key : ℕ) (value : Option X)
    → ((k : ℕ) → ForSome (get nat_cmp old k) P) → ForSome value P → Updates nat_cmp old new key value
    → (k : ℕ) → ForSome (get nat_cmp new k) P
all_after P old new key value all one u k x is =
    (elim (is_at (nat_cmp key) k) as (λ t. get nat_cmp new k ≡ cond t value (get nat_cmp old k) → P x) [
      | true ↦ λ e. one x (sym e ∙ is)
      | false ↦ λ e. all k x (sym e ∙ is)
    ]) (u.0 k)

-- the same after an insert that may have found no memory
pub all_inserted : {X T E : Type 0} (P : X → Type 0) (old new : BTreeMap ℕ X) (key : ℕ) (value : Option X)
    (r : Result T E) → ((k : ℕ) → ForSome (get nat_cmp old k) P) → ForSome value P → OnOk r (Updates nat_cmp old new key value)
    → OnErr r (IsUnchanged old new) → (k : ℕ) → ForSome (get nat_cmp new k) P
all_inserted P old new key value (Ok y) all one ok err k x is = all_after P old new key value all one ok k x is
all_inserted P old new key value (Err y) all one ok err k x is = all k x (cc (err, is))
