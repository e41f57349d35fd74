use Rattle.path_server.specs.Shown.{shown_at}
use Rattle.path_server.specs.State.{state_of}
use Rattle.path_server.proofs.StartLaws.{shown_twice}
use Rattle.path_server.proofs.ShownCalls.{rmdir_told}
use Rattle.path_server.proofs.server.PathServerFileServer.rmdir.Goals as goal

pub returns : goal.returns
returns c =
    let s = c.args.self.now in
    rmdir_told (shown_at s.starts) (shown_twice s.starts) (state_of s.tree) (state_of c.rmdir.new.self)
    c.shown-dir.result c.args.dir.now c.shown-dir.ensures c.args.name.now c.rmdir.result c.rmdir.ensures
