use Rattle.inode_slots.proofs.ChangeLaws.{count_of}
use Rattle.inode_slots.proofs.slots.count_slots.Goals as goal

pub returns-clause-count : goal.returns-clause-count
returns-clause-count g c =
    let s = c.args.store.now in
    count_of s.area (g.M.Medium.content s.medium) c.args.dir c.in_ok-inode.inode c.in_ok-inode.ensures.inode
