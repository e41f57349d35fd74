use Rattle.std.proofs.lemmas.Result.{err_from_is_err_and}
use Rattle.path_server.specs.State.{kept_by}
use Rattle.path_server.specs.Kept.{the_tree}
use Rattle.path_server.proofs.CallLaws.{is_held, list-ok, list-err}
use Rattle.path_server.proofs.NamedLaws.{dir_stored}
use Rattle.path_server.proofs.tree.PathTree.list.Goals as goal

pub returns-in_err-find_dir : goal.returns-in_err-find_dir
returns-in_err-find_dir c =
    let s = c.args.self.now in
    let p = err_from_is_err_and c.from_residual.result c.from_residual.ensures.1 in
    rw (p.1, p.2) (list-err s.held s.limits s.next s.bytes (kept_by s) s.sound c.args.dir.now
    c.in_err-find_dir.field-0.0 c.in_err-find_dir.ensures)

pub list-requires-clause-whole : goal.list-requires-clause-whole
list-requires-clause-whole c = let s = c.args.self.now in
    (s.stored (is_held s.held (the_tree (kept_by s)) c.requires)).whole

pub list-requires-clause-dir : goal.list-requires-clause-dir
list-requires-clause-dir c = let s = c.args.self.now in
    dir_stored (kept_by s).nodes s.names (s.stored (is_held s.held (the_tree (kept_by s)) c.requires)) c.args.dir.now
    c.in_ok-find_dir.field-0 c.in_ok-find_dir.ensures

pub returns-in-Ok : goal.returns-in-Ok
returns-in-Ok c =
    let s = c.args.self.now in
    list-ok s.held s.limits s.next s.bytes (kept_by s) s.sound c.args.dir.now c.in_ok-find_dir.field-0 c.in-Ok.rows
    c.in_ok-find_dir.ensures c.in-Ok.ensures
