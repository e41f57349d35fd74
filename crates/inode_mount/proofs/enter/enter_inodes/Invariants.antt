use Rattle.std.proofs.Common.{◌≡◌}
use Rattle.inode_tree.specs.Kept.{tables_of}
use Rattle.inode_tree.specs.Planned.{epoch_of}
use Rattle.inode_mount.specs.Reading.{files_in, IsEntering}
use Rattle.inode_mount.proofs.enter.enter_inodes.Given as goal

abbrev pub invariant-loop-inode : goal.invariant-loop-inode
invariant-loop-inode g l = record {
  state : IsEntering l.fn.tree.store.inodes (files_in g.M.Medium.content l.fn.tree.store) l.inode
      (tables_of l.tree.tables);
  epoch : epoch_of l.tree.tables ≡ epoch_of l.fn.tree.tables;
  content : g.M.Medium.content l.tree.store.medium ≡ g.M.Medium.content l.fn.tree.store.medium;
  map : l.tree.store.map ≡ l.fn.tree.store.map;
  limits : l.tree.limits ≡ l.fn.tree.limits;
  area : l.tree.store.area ≡ l.fn.tree.store.area;
  inodes : l.tree.store.inodes ≡ l.fn.tree.store.inodes;
  size : g.M.Medium.size l.tree.store.medium ≡ g.M.Medium.size l.fn.tree.store.medium;
  faults : g.M.Medium.faults l.tree.store.medium ≡ g.M.Medium.faults l.fn.tree.store.medium;
}
