use Rattle.inode_mount.proofs.SoundLaws.{holds-tree}
use Rattle.inode_mount.proofs.laws.holds_tree.Goals as goal

pub returns : goal.returns
returns g c =
    let s = c.args.tree.now in
    holds-tree s.limits s.store.area s.store.inodes (g.M.Medium.size s.store.medium) (g.M.Medium.content s.store.medium)
    s.store.map _ c.requires.whole c.requires.name
