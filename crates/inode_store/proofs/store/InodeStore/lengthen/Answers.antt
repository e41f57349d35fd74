use Rattle.std.proofs.Common.{refl, ◌/◌, ◌-◌}
use Rattle.inode_store.proofs.ResizeLaws.{long_rewrites}
use Rattle.inode_store.proofs.store.InodeStore.lengthen.Goals as goal

pub returns-clause-ok : goal.returns-clause-ok
returns-clause-ok g c =
    let s = c.args.self.now in
    let deep = c.in_ok-depth.ensures in
    long_rewrites s.area c.args.x c.args.size c.in_ok-depth.depth c.in_ok-depth.top ((c.args.size - 1) / 512)
    (g.M.Medium.content s.medium) (g.M.Medium.content c.deepen_tree.new.medium) s.map c.deepen_tree.new.map deep.ok
    c.requires.whole deep.place deep.depth_in c.requires.more c.requires.block refl
