use Rattle.std.proofs.Common.{◌≡◌, ◌-◌, ◌≤◌}
use Rattle.pointer_tree.specs.Tree.{block}
use Rattle.pointer_tree.specs.Bytes.{bytes_from}
use Rattle.pointer_tree.proofs.read.read_bytes.Given as goal

abbrev pub invariant-loop-at : goal.invariant-loop-at
invariant-loop-at g l = record {
  from_in : l.from ≤ l.at;
  to_in : l.at ≤ l.to;
  read : l.out.items ≡ bytes_from (block l.area (g.M.Medium.content l.fn.medium) l.depth l.top) l.from (l.at - l.from);
  content : g.M.Medium.content l.medium ≡ g.M.Medium.content l.fn.medium;
  size : g.M.Medium.size l.medium ≡ g.M.Medium.size l.fn.medium;
  faults : g.M.Medium.faults l.medium ≡ g.M.Medium.faults l.fn.medium;
}

abbrev pub decreases-loop-at : goal.decreases-loop-at
decreases-loop-at g l = l.to - l.at
