use Rattle.std.proofs.Common.{◌≡◌, ◌-◌, length}
use Rattle.abs_queries.specs.Marks.{IsSound, IsComplete}
use Rattle.abs_queries.proofs.marking.rounds.Given as goal

abbrev pub invariant-loop-i : goal.invariant-loop-i
invariant-loop-i l = record {
  long : length l.marked ≡ length l.entries;
  sound : IsSound l.entries l.marked;
  complete : IsComplete l.entries l.marked (l.i - 1);
}
