use Rattle.path_server.specs.Shown.{shown_at}
use Rattle.path_server.specs.State.{state_of}
use Rattle.path_server.proofs.StartLaws.{shown_twice}
use Rattle.path_server.proofs.ShownCalls.{rename_told}
use Rattle.path_server.proofs.server.PathServerFileServer.rename.Goals as goal

pub returns : goal.returns
returns c =
    let s = c.args.self.now in
    rename_told (shown_at s.starts) (shown_twice s.starts) (state_of s.tree) (state_of c.rename.new.self)
    c.shown-from.result c.args.from.now c.shown-from.ensures c.args.name.now
    c.shown-to.result c.args.to.now c.args.to_name.now c.shown-to.ensures c.rename.result c.rename.ensures
