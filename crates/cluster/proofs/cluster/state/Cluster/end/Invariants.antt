use Rattle.std.proofs.Common.{◌≡◌, ◌++◌, take}
use Rattle.cluster.specs.Went.{end_lines}
use Rattle.cluster.proofs.cluster.state.Cluster.end.Given as goal

abbrev pub invariant-loop-r : goal.invariant-loop-r
invariant-loop-r l = l.lines.items ≡ l.fn.lines.items ++ end_lines 0 (take l.r l.self.seats.items)
