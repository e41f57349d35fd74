use Rattle.std.proofs.Common.{subst}
use Rattle.server_trait.specs.Calls.{ListNames}
use Rattle.path_server.specs.Shown.{shown_at}
use Rattle.path_server.specs.State.{state_of}
use Rattle.path_server.proofs.StartLaws.{shown_twice}
use Rattle.path_server.proofs.ShownCalls.{list_ok_told, list_err_told}
use Rattle.path_server.proofs.server.PathServerFileServer.list.Goals as goal

pub returns-in-Ok : goal.returns-in-Ok
returns-in-Ok c =
    let s = c.args.self.now in
    list_ok_told (shown_at s.starts) (shown_twice s.starts) (state_of s.tree) (state_of c.list.new.self)
    c.shown-dir.result c.args.dir.now c.shown-dir.ensures c.in-Ok.rows c.show_rows.new.rows c.show_rows.ensures
    (subst (λ r. ListNames (state_of s.tree) c.shown-dir.result r (state_of c.list.new.self)) c.in-Ok.is c.list.ensures)

pub returns-in-Err : goal.returns-in-Err
returns-in-Err c =
    let s = c.args.self.now in
    list_err_told (shown_at s.starts) (shown_twice s.starts) (state_of s.tree) (state_of c.list.new.self)
    c.shown-dir.result c.args.dir.now c.shown-dir.ensures c.in-Err.e
    (subst (λ r. ListNames (state_of s.tree) c.shown-dir.result r
    (state_of c.list.new.self)) c.in-Err.is c.list.ensures)
