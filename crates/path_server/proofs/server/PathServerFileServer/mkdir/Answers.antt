use Rattle.std.proofs.Common.{subst}
use Rattle.server_trait.specs.Calls.{Mkdir}
use Rattle.path_server.specs.Shown.{shown_at}
use Rattle.path_server.specs.State.{state_of}
use Rattle.path_server.proofs.StartLaws.{shown_twice}
use Rattle.path_server.proofs.ShownCalls.{mkdir_ok_told, mkdir_err_told}
use Rattle.path_server.proofs.server.PathServerFileServer.mkdir.Goals as goal

pub returns-in-Ok : goal.returns-in-Ok
returns-in-Ok c =
    let s = c.args.self.now in
    mkdir_ok_told (shown_at s.starts) (shown_twice s.starts) (state_of s.tree) (state_of c.mkdir.new.self)
    c.shown-dir.result c.args.dir.now c.shown-dir.ensures c.args.name.now c.in-Ok.node c.shown.result c.shown.ensures
    (subst (λ r. Mkdir (state_of s.tree) c.shown-dir.result c.args.name.now r
    (state_of c.mkdir.new.self)) c.in-Ok.is c.mkdir.ensures)

pub returns-in-Err : goal.returns-in-Err
returns-in-Err c =
    let s = c.args.self.now in
    mkdir_err_told (shown_at s.starts) (shown_twice s.starts) (state_of s.tree) (state_of c.mkdir.new.self)
    c.shown-dir.result c.args.dir.now c.shown-dir.ensures c.args.name.now c.in-Err.e
    (subst (λ r. Mkdir (state_of s.tree) c.shown-dir.result c.args.name.now r
    (state_of c.mkdir.new.self)) c.in-Err.is c.mkdir.ensures)
