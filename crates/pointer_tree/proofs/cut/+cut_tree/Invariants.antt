use Rattle.std.proofs.Common.{◌≡◌, ◌-◌, length}
use Rattle.pointer_tree.proofs.CutLaws.{Cutting}
use Rattle.pointer_tree.proofs.cut.+cut_tree.Given as goal

abbrev pub decreases-cut_tree : goal.decreases-cut_tree
decreases-cut_tree g l = l.depth

abbrev pub invariant-loop-index : goal.invariant-loop-index
invariant-loop-index g l = record {
  state : Cutting l.area (l.depth - 1) l.top l.keep (g.M.Medium.content l.fn.medium) l.fn.map l.index
      (g.M.Medium.content l.medium) l.map l.node;
  len : length l.map ≡ length l.fn.map;
  size : g.M.Medium.size l.medium ≡ g.M.Medium.size l.fn.medium;
  faults : g.M.Medium.faults l.medium ≡ g.M.Medium.faults l.fn.medium;
  node_len : length l.node ≡ 512;
}
