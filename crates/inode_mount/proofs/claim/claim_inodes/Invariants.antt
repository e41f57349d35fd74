use Rattle.std.proofs.Common.{◌≡◌}
use Rattle.inode_mount.proofs.Claimed.{ClaimedTo}
use Rattle.inode_mount.proofs.claim.claim_inodes.Given as goal

abbrev pub invariant-loop-inode : goal.invariant-loop-inode
invariant-loop-inode g l = record {
  state : ClaimedTo l.fn.store.area (g.M.Medium.content l.fn.store.medium) l.inode l.store.map;
  content : g.M.Medium.content l.store.medium ≡ g.M.Medium.content l.fn.store.medium;
  size : g.M.Medium.size l.store.medium ≡ g.M.Medium.size l.fn.store.medium;
  area : l.store.area ≡ l.fn.store.area;
  inodes : l.store.inodes ≡ l.fn.store.inodes;
  faults : g.M.Medium.faults l.store.medium ≡ g.M.Medium.faults l.fn.store.medium;
}
