use Rattle.std.proofs.Common.{ap, is_some}
use Rattle.server_trait.proofs.SoftLaws.{some_of}
use Rattle.inode_tests.proofs.tests.calls.reboot.Goals as goal

pub returns : goal.returns
returns g c =
    let t = some_of (g.S.FileServer.state c.args.server.now).tree c.requires in
    ap is_some (c.in_ok-reboot.ensures.tree t.0 t.1).0.has_tree
