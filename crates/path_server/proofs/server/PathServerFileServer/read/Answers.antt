use Rattle.path_server.specs.Shown.{shown_at}
use Rattle.path_server.specs.State.{state_of}
use Rattle.path_server.proofs.StartLaws.{shown_twice}
use Rattle.path_server.proofs.ShownCalls.{read_told}
use Rattle.path_server.proofs.server.PathServerFileServer.read.Goals as goal

pub returns : goal.returns
returns c =
    let s = c.args.self.now in
    read_told (shown_at s.starts) (shown_twice s.starts) (state_of s.tree) (state_of c.read.new.self)
    c.shown-file.result c.args.file.now c.shown-file.ensures c.args.offset c.args.count c.read.result c.read.ensures
