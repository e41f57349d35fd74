use Rattle.std.proofs.Common.{◌≡◌}
use Rattle.inode_store.specs.Layout.{superblock}
use Rattle.inode_tree.specs.Whole.{IsWhole}
use Rattle.inode_mount.proofs.tests.put_names.Given as goal

abbrev pub invariant-loop-number : goal.invariant-loop-number
invariant-loop-number g l = record {
  whole : IsWhole g.M.Medium.content g.M.Medium.size l.tree;
  name : g.M.Medium.content l.tree.store.medium 0 ≡ superblock l.tree.limits;
}
