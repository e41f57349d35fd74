use Rattle.std.proofs.Common.{◌≤◌, vec_len}
use Rattle.basefs.proofs.tests.random.bench_of_kinds.Given as goal

abbrev pub invariant-loop-r : goal.invariant-loop-r
invariant-loop-r g l = vec_len l.servers ≤ l.r
