use Rattle.std.proofs.Common.{arith}
use Rattle.inode_store.proofs.ResizeLaws.{cut_rewrites}
use Rattle.inode_store.proofs.store.InodeStore.cut.Goals as goal

pub returns-clause-ok : goal.returns-clause-ok
returns-clause-ok g c =
    let s = c.args.self.now in
    cut_rewrites s.area c.args.x c.args.size c.div_ceil-keep.result c.in_ok-top.top (g.M.Medium.content s.medium)
    (g.M.Medium.content c.cut_tree.new.medium) s.map c.cut_tree.new.map c.in_ok-top.ensures.ok c.requires.whole
    c.requires.less (let e = c.div_ceil-keep.ensures in omega (arith, e))
