use Rattle.std.proofs.Common.{◌∙◌, arith}
use Rattle.inode_server.proofs.ReadyLaws.{root_is, whole_now}
use Rattle.inode_server.proofs.server.InodeServerFileServer.root.Goals as goal

pub handle-requires : goal.handle-requires
handle-requires g c =
    let s = c.args.self.now in
    let whole = whole_now g.M.Medium.content g.M.Medium.size g.M.Medium.faults s.up s.tree s.ready c.requires in
    let a = whole.tied.inodes in
    let b = whole.inodes in
    omega (arith, a, b)

pub returns : goal.returns
returns g c t is =
    let s = c.args.self.now in
    c.handle.ensures ∙ root_is g.M.Medium.content g.M.Medium.size g.M.Medium.faults s.up s.tree t is
