use Rattle.std.proofs.Common.{◌≡◌, vec_len}
use Rattle.basefs.proofs.tests.session.bench_of.Given as goal

abbrev pub invariant-loop-r : goal.invariant-loop-r
invariant-loop-r g l = vec_len l.servers ≡ l.r
