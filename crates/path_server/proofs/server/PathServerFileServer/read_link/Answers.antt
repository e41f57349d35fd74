use Rattle.path_server.specs.Shown.{shown_at}
use Rattle.path_server.specs.State.{state_of}
use Rattle.path_server.proofs.StartLaws.{shown_twice}
use Rattle.path_server.proofs.ShownCalls.{read_link_told}
use Rattle.path_server.proofs.server.PathServerFileServer.read_link.Goals as goal

pub returns : goal.returns
returns c =
    let s = c.args.self.now in
    read_link_told (shown_at s.starts) (shown_twice s.starts) (state_of s.tree) (state_of c.read_link.new.self)
    c.shown-link.result c.args.link.now c.shown-link.ensures c.read_link.result c.read_link.ensures
