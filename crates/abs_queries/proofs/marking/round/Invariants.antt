use Rattle.std.proofs.Common.{◌≡◌, ℕ, ◌<◌, true, false, length}
use Rattle.abs_model.specs.Array.{entry_at, has_row_to}
use Rattle.abs_queries.specs.Marks.{IsSound, is_marked}
use Rattle.abs_queries.proofs.marking.round.Given as goal

abbrev pub invariant-loop-here : goal.invariant-loop-here
invariant-loop-here l = record {
  sound : IsSound l.entries l.marked;
  grows : (i : ℕ) → is_marked l.fn.marked i ≡ true → is_marked l.marked i ≡ true;
  spreads : (d i : ℕ) → d < l.here → i < length l.fn.marked → is_marked l.fn.marked d ≡ true → has_row_to i (entry_at l.entries d) ≡ true → is_marked l.marked i ≡ true;
  same : l.some ≡ false → l.marked ≡ l.fn.marked;
}
