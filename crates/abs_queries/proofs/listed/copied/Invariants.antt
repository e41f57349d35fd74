use Rattle.std.proofs.Common.{◌≡◌, take}
use Rattle.abs_queries.proofs.listed.copied.Given as goal

abbrev pub invariant-loop-e : goal.invariant-loop-e
invariant-loop-e l = l.out.items ≡ take l.e-index l.entries
