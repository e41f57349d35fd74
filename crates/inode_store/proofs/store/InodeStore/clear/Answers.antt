use Rattle.std.proofs.Common.{◌∙◌, None}
use Rattle.inode_store.proofs.FormatLaws.{free_more}
use Rattle.inode_store.proofs.OpLaws.{here_of, inode_in-zeros}
use Rattle.inode_store.proofs.store.InodeStore.clear.Goals as goal

pub loop-inode-preserved : goal.loop-inode-preserved
loop-inode-preserved g c =
    let inv = c.loop-inode.invariant in
    let e = c.in_ok-put.ensures in
    let area = c.args.self.now.area in
    let after = g.M.Medium.content c.put.new.self.medium in
    record {
      free = free_more area (g.M.Medium.content c.loop-inode.self.medium) after c.loop-inode.inode inv.free
          (here_of area after c.loop-inode.inode _ None e.here (inode_in-zeros area)) e.others;
      map = e.map ∙ inv.map;
      area = e.area ∙ inv.area;
      inodes = e.inodes ∙ inv.inodes;
      size = e.size ∙ inv.size;
      faults = e.cause.ok ∙ inv.faults;
    }
