use Rattle.std.proofs.Common.{◌≡◌, vec_len}
use Rattle.basefs.proofs.start.Given as goal

abbrev pub invariant-loop-position : goal.invariant-loop-position
invariant-loop-position l = vec_len l.servers ≡ l.position
