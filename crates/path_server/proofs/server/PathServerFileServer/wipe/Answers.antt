use Rattle.path_server.specs.Shown.{shown_at}
use Rattle.path_server.specs.State.{state_of}
use Rattle.path_server.proofs.ShownCalls.{wipe_seen}
use Rattle.path_server.proofs.StartLaws.{shown_twice}
use Rattle.path_server.proofs.server.PathServerFileServer.wipe.Goals as goal

pub returns : goal.returns
returns c =
    let s = c.args.self.now in
    wipe_seen (shown_at s.starts) (shown_twice s.starts) (state_of s.tree) (state_of c.wipe.new.self) c.wipe.result
    c.wipe.ensures
