use Rattle.std.proofs.Common.{◌≡◌, ℕ, ◌<◌, true, false}
use Rattle.abs_model.specs.Objects.{is_null}
use Rattle.abs_model.specs.Array.{entry_at}
use Rattle.abs_queries.specs.Marks.{is_marked}
use Rattle.abs_queries.proofs.validity.marked_or_null.Given as goal

abbrev pub invariant-loop-i : goal.invariant-loop-i
invariant-loop-i l = (k : ℕ) → k < l.i → is_null (entry_at l.entries k) ≡ false → is_marked l.marks k ≡ true
