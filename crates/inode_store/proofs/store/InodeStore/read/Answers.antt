use Rattle.std.proofs.Common.{◌+◌, sym, ap, subst, ℕ}
use Rattle.pointer_tree.specs.Changes.{IsTop}
use Rattle.pointer_tree.specs.declared.node.Area.{Area}
use Rattle.inode_store.proofs.ChangeLaws.{top_at}
use Rattle.inode_store.proofs.OpLaws.{file_part}
use Rattle.inode_store.proofs.store.InodeStore.read.Goals as goal

pub read_bytes-requires-clause-top_is : goal.read_bytes-requires-clause-top_is
read_bytes-requires-clause-top_is g c =
    let s = c.args.self.now in
    let r = c.in_ok-x.ensures in
    subst (λ (a : Area). IsTop a c.in_ok-x.x.top) (sym r.area)
    (top_at s.area (g.M.Medium.content s.medium) c.args.inode c.in_ok-x.x r.inode)

pub returns-clause-bytes : goal.returns-clause-bytes
returns-clause-bytes g c =
    let s = c.args.self.now in
    let r = c.in_ok-x.ensures in
    file_part s.area c.used.new.self.area (g.M.Medium.content s.medium) (g.M.Medium.content c.used.new.self.medium)
    c.args.inode c.in_ok-x.x c.args.from c.args.count _ _ c.in_ok-bytes.bytes.items r.inode
    r.area r.content c.min-first.ensures (ap (λ (n : ℕ). c.min-first.result + n) c.min.ensures)
    c.in_ok-bytes.ensures.bytes
