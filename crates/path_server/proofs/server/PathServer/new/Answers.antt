use Rattle.path_server.specs.Shown.{shown_at}
use Rattle.path_server.specs.State.{state_of}
use Rattle.path_server.proofs.ShownCalls.{fresh_seen}
use Rattle.path_server.proofs.StartLaws.{shown_twice}
use Rattle.path_server.proofs.server.PathServer.new.Goals as goal

pub returns-clause-fresh : goal.returns-clause-fresh
returns-clause-fresh c =
    let s = state_of c.in_ok-tree.tree in
    fresh_seen (shown_at 0) (shown_twice 0) s s s.tree (c.in_ok-tree.ensures).fresh
