use Rattle.inode_tree.specs.Kept.{tables_of}
use Rattle.inode_tree.proofs.ReadLaws.{whole-same, tells}
use Rattle.inode_tree.proofs.tree.InodeTree.inode.Goals as goal

pub returns-clause-whole : goal.returns-clause-whole
returns-clause-whole g c =
    let s = c.args.self.now in
    let n = c.used.new.self in
    let e = c.in_ok-found.ensures in
    whole-same s.limits s.store.area s.store.inodes (g.M.Medium.content s.store.medium)
    (g.M.Medium.size s.store.medium) s.store.map (tables_of s.tables) n.area n.inodes (g.M.Medium.content n.medium)
    (g.M.Medium.size n.medium) n.map e.area e.inodes e.content e.size e.map c.requires.whole

pub returns-clause-inode : goal.returns-clause-inode
returns-clause-inode g c f is =
    let s = c.args.self.now in
    tells s.store.area (g.M.Medium.content s.store.medium) c.args.inode c.in_ok-found.found f c.in_ok-found.ensures.inode is
