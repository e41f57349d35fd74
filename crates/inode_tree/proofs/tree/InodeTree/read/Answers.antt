use Rattle.inode_tree.specs.Kept.{tables_of}
use Rattle.inode_tree.proofs.ReadLaws.{whole-same, part_of}
use Rattle.inode_tree.proofs.tree.InodeTree.read.Goals as goal

pub returns-clause-whole : goal.returns-clause-whole
returns-clause-whole g c =
    let s = c.args.self.now in
    let n = c.read.new.self in
    let e = c.in_ok-bytes.ensures in
    whole-same s.limits s.store.area s.store.inodes (g.M.Medium.content s.store.medium)
    (g.M.Medium.size s.store.medium) s.store.map (tables_of s.tables) n.area n.inodes (g.M.Medium.content n.medium)
    (g.M.Medium.size n.medium) n.map e.area e.inodes e.content e.size e.map c.requires.whole

pub returns-clause-bytes : goal.returns-clause-bytes
returns-clause-bytes g c f is =
    let s = c.args.self.now in
    part_of _ f c.args.from c.args.count c.in_ok-bytes.bytes.items is c.in_ok-bytes.ensures.bytes
