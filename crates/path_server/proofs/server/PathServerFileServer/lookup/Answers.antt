use Rattle.std.proofs.Common.{subst}
use Rattle.server_trait.specs.Calls.{Lookup}
use Rattle.path_server.specs.Shown.{shown_at}
use Rattle.path_server.specs.State.{state_of}
use Rattle.path_server.proofs.StartLaws.{shown_twice}
use Rattle.path_server.proofs.ShownCalls.{lookup_ok_told, lookup_err_told}
use Rattle.path_server.proofs.server.PathServerFileServer.lookup.Goals as goal

pub returns-in-Ok : goal.returns-in-Ok
returns-in-Ok c =
    let s = c.args.self.now in
    lookup_ok_told (shown_at s.starts) (shown_twice s.starts) (state_of s.tree) (state_of c.lookup.new.self)
    c.shown-dir.result c.args.dir.now c.shown-dir.ensures c.args.name.now c.in-Ok.node c.shown.result c.shown.ensures
    (subst (λ r. Lookup (state_of s.tree) c.shown-dir.result c.args.name.now r
    (state_of c.lookup.new.self)) c.in-Ok.is c.lookup.ensures)

pub returns-in-Err : goal.returns-in-Err
returns-in-Err c =
    let s = c.args.self.now in
    lookup_err_told (shown_at s.starts) (shown_twice s.starts) (state_of s.tree) (state_of c.lookup.new.self)
    c.shown-dir.result c.args.dir.now c.shown-dir.ensures c.args.name.now c.in-Err.e
    (subst (λ r. Lookup (state_of s.tree) c.shown-dir.result c.args.name.now r
    (state_of c.lookup.new.self)) c.in-Err.is c.lookup.ensures)
