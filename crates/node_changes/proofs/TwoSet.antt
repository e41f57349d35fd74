-- Two elements of a list that are set, and the handles of such rows.
use Rattle.std.proofs.Common.{◌≡◌, ◌≢◌, inl, inr, ℕ, List, length, Some, slice_get, slice_set, sym, ap, ◌∙◌, subst}
use Rattle.std.proofs.lemmas.List.{length-set}
use Rattle.server_trait.specs.declared.bench.ConfEntry.{ConfEntry}
use Rattle.server_trait.proofs.TreeLaws.{one_or_not}
use Rattle.conf_map.specs.Moves.{OthersStay}
use Rattle.conf_map.specs.Stands.{handle_at}
use Rattle.conf_map.proofs.Frames.{handle_of_row, same_handle}
use Rattle.conf_map.proofs.InStep.{slice_get-set_same, slice_get-set_other}

-- the list with two elements in place of two others
pub record IsSetTwice {X : Type 0} (d i : ℕ) (u v : X) (old new : List X) : Type 0 where
  pub first : slice_get new d ≡ Some u
  pub second : slice_get new i ≡ Some v
  pub stay : OthersStay d i old new

pub set_twice : {X : Type 0} (d i : ℕ) (x y u v : X) (old new : List X) → d ≢ i → slice_get old d ≡ Some x →
    slice_get old i ≡ Some y → new ≡ slice_set (slice_set old d u) i v → IsSetTwice d i u v old new
set_twice d i x y u v old new apart at_d at_i is = record {
  first = ap (λ l. slice_get l d) is ∙ slice_get-set_other (slice_set old d u) i d v apart
      ∙ slice_get-set_same old d u x at_d;
  second = ap (λ l. slice_get l i) is ∙ slice_get-set_same (slice_set old d u) i v y
      (slice_get-set_other old d i u (λ e. apart (sym e)) ∙ at_i);
  stay = record {
    size = ap length is ∙ length-set (slice_set old d u) i v ∙ length-set old d u;
    others = λ j not_d not_i. ap (λ l. slice_get l j) is ∙ slice_get-set_other (slice_set old d u) i j v not_i
        ∙ slice_get-set_other old d j u not_d;
  };
}

-- rows other than the second keep their handles, where the first does
pub handles_stay : (d i : ℕ) (r u v : ConfEntry) (old new : List ConfEntry) → IsSetTwice d i u v old new →
    slice_get old d ≡ Some r → u.handle ≡ r.handle → (j : ℕ) → j ≢ i → handle_at new j ≡ handle_at old j
handles_stay d i r u v old new set at same j not_i = elim (one_or_not j d) as (λ _. handle_at new j ≡ handle_at old j) [
  | inl e ↦ subst (λ j. handle_at new j ≡ handle_at old j) (sym e)
      (handle_of_row new d u set.first ∙ same ∙ sym (handle_of_row old d r at))
  | inr not_d ↦ same_handle old new j (set.stay.others j not_d not_i)
]
