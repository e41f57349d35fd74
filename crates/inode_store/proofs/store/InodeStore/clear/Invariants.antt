use Rattle.std.proofs.Common.{◌≡◌, ℕ, ◌<◌, ◌≤◌, None}
use Rattle.inode_store.specs.Inodes.{inode_at}
use Rattle.inode_store.proofs.store.InodeStore.clear.Given as goal

abbrev pub invariant-loop-inode : goal.invariant-loop-inode
invariant-loop-inode g l = record {
  free : (i : ℕ) → 1 ≤ i → i < l.inode → inode_at l.fn.self.area (g.M.Medium.content l.self.medium) i ≡ None;
  map : l.self.map ≡ l.fn.self.map;
  area : l.self.area ≡ l.fn.self.area;
  inodes : l.self.inodes ≡ l.fn.self.inodes;
  size : g.M.Medium.size l.self.medium ≡ g.M.Medium.size l.fn.self.medium;
  faults : g.M.Medium.faults l.self.medium ≡ g.M.Medium.faults l.fn.self.medium;
}
