use Rattle.std.proofs.Common.{◌≡◌, ◌≤◌, vec_len, length}
use Rattle.std.specs.Vec.{vec_capacity}
use Rattle.partition_tree.specs.Digests.{digest_at}
use Rattle.state_transfer.proofs.Gathering.{Wanting}
use Rattle.state_transfer.proofs.children.want_below.Given as goal

abbrev pub invariant-loop-place : goal.invariant-loop-place
invariant-loop-place l = record {
  wanting : Wanting (digest_at l.own) l.level l.number l.text l.fn.lower.items l.lower.items l.place;
  room : vec_capacity l.fn.lower ≤ vec_capacity l.lower;
}
