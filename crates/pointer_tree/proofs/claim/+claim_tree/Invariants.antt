use Rattle.std.proofs.Common.{◌≡◌, ◌-◌, length}
use Rattle.pointer_tree.proofs.ClaimLaws.{Claiming}
use Rattle.pointer_tree.proofs.claim.+claim_tree.Given as goal

abbrev pub decreases-claim_tree : goal.decreases-claim_tree
decreases-claim_tree g l = l.depth

abbrev pub invariant-loop-index : goal.invariant-loop-index
invariant-loop-index g l = record {
  state : Claiming l.area (l.depth - 1) l.top (g.M.Medium.content l.fn.medium) l.fn.map l.map l.index;
  content : g.M.Medium.content l.medium ≡ g.M.Medium.content l.fn.medium;
  len : length l.map ≡ length l.fn.map;
  size : g.M.Medium.size l.medium ≡ g.M.Medium.size l.fn.medium;
  faults : g.M.Medium.faults l.medium ≡ g.M.Medium.faults l.fn.medium;
}
