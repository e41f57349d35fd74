use Rattle.std.proofs.Common.{sym, ◌∙◌}
use Rattle.std.proofs.lemmas.Result.{err_from_is_err_and}
use Rattle.path_server.specs.Kept.{the_tree}
use Rattle.path_server.specs.State.{kept_by}
use Rattle.path_server.proofs.CallLaws.{is_held, lookup-ok, lookup-none, lookup-err}
use Rattle.path_server.proofs.tree.PathTree.lookup.Goals as goal

pub returns-in_err-find_dir : goal.returns-in_err-find_dir
returns-in_err-find_dir c =
    let s = c.args.self.now in
    let p = err_from_is_err_and c.from_residual.result c.from_residual.ensures.1 in
    rw (p.1, p.2) (lookup-err s.held s.limits s.next s.bytes (kept_by s) s.sound c.args.dir.now c.args.name.now
    c.in_err-find_dir.field-0.0 c.in_err-find_dir.ensures)

pub get-requires-clause-whole : goal.get-requires-clause-whole
get-requires-clause-whole c = let s = c.args.self.now in
    (s.stored (is_held s.held (the_tree (kept_by s)) c.requires.tree)).whole

pub returns-in-Ok-Some : goal.returns-in-Ok-Some
returns-in-Ok-Some c =
    let s = c.args.self.now in
    lookup-ok s.held s.limits s.next s.bytes (kept_by s) s.sound c.args.dir.now c.args.name.now c.in-Ok-Some.handle
    c.in_ok-find_dir.field-0 c.in_ok-find_dir.ensures (sym c.in-Ok-Some.ensures ∙ c.in-Ok-Some.field-0-is)

pub returns-in-Ok-None : goal.returns-in-Ok-None
returns-in-Ok-None c =
    let s = c.args.self.now in
    lookup-none s.held s.limits s.next s.bytes (kept_by s) s.sound c.args.dir.now c.args.name.now
    c.in_ok-find_dir.field-0 c.in_ok-find_dir.ensures (sym c.in-Ok-None.ensures ∙ c.in-Ok-None.field-0-is)
