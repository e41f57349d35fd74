use Rattle.std.proofs.Common.{◌≡◌, ◌++◌, drop}
use Rattle.abs_model.specs.Listed.{numbered, listing}
use Rattle.std.proofs.Common.{◌+◌}
use Rattle.abs_queries.proofs.listed.listing.Given as goal

abbrev pub invariant-loop-i : goal.invariant-loop-i
invariant-loop-i l = l.out.items ++ numbered (l.i + 3) (drop l.i l.rows) ≡ listing l.entries l.d
