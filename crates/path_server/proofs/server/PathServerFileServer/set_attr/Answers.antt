use Rattle.path_server.specs.Shown.{shown_at}
use Rattle.path_server.specs.State.{state_of}
use Rattle.path_server.proofs.StartLaws.{shown_twice}
use Rattle.path_server.proofs.ShownCalls.{set_attr_told}
use Rattle.path_server.proofs.server.PathServerFileServer.set_attr.Goals as goal

pub returns : goal.returns
returns c =
    let s = c.args.self.now in
    set_attr_told (shown_at s.starts) (shown_twice s.starts) (state_of s.tree) (state_of c.set_attr.new.self)
    c.shown-node.result c.args.node.now c.shown-node.ensures c.args.mode c.args.uid c.args.gid c.set_attr.result c.set_attr.ensures
