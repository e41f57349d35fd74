use Rattle.std.proofs.Common.{◌≡◌, take, reverse, None}
use Rattle.cow_checkpoint.specs.Held.{saved_from}
use Rattle.cow_checkpoint.proofs.held.first_saved.Given as goal

abbrev pub invariant-loop-c : goal.invariant-loop-c
invariant-loop-c l = saved_from l.place l.index (reverse (take l.c-index l.older)) ≡ None
