use Rattle.std.proofs.Common.{sym, ◌∙◌}
use Rattle.std.proofs.lemmas.Result.{err_from_is_err_and}
use Rattle.path_server.specs.Kept.{the_tree}
use Rattle.path_server.specs.State.{kept_by}
use Rattle.path_server.proofs.CallLaws.{is_held}
use Rattle.path_server.proofs.NameCallLaws.{rmdir-err, rmdir-none}
use Rattle.path_server.proofs.tree.PathTree.rmdir.Goals as goal

pub returns-in_err-within : goal.returns-in_err-within
returns-in_err-within c =
    let s = c.args.self.now in
    let p = err_from_is_err_and c.from_residual.result c.from_residual.ensures.1 in
    rw (p.1, p.2) (rmdir-err s.held s.limits s.next s.bytes (kept_by s) s.sound c.args.dir.now c.args.name.now
    c.in_err-within.field-0.0 c.in_err-within.ensures)

pub get-requires-clause-whole : goal.get-requires-clause-whole
get-requires-clause-whole c = let s = c.args.self.now in
    (s.stored (is_held s.held (the_tree (kept_by s)) c.requires.tree)).whole

pub rmdir_at-requires-clause-held : goal.rmdir_at-requires-clause-held
rmdir_at-requires-clause-held c = let s = c.args.self.now in is_held s.held (the_tree (kept_by s)) c.requires.tree

pub rmdir_at-requires-clause-leads : goal.rmdir_at-requires-clause-leads
rmdir_at-requires-clause-leads c = sym c.in-Ok-Some.ensures ∙ c.in-Ok-Some.field-0-is

pub returns-in-Ok-None : goal.returns-in-Ok-None
returns-in-Ok-None c = let s = c.args.self.now in
    rmdir-none s.held s.limits s.next s.bytes (kept_by s) s.sound c.args.dir.now c.args.name.now
    c.in_ok-within.within c.in_ok-within.ensures (sym c.in-Ok-None.ensures ∙ c.in-Ok-None.field-0-is)
