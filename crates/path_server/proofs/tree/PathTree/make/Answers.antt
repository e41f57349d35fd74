use Rattle.std.specs.FinMap.{empty}
use Rattle.std.proofs.Common.{length, sym, ◌∙◌}
use Rattle.std.proofs.lemmas.Result.{err_from_is_err_and}
use Rattle.path_server.specs.Bytes.{content_of}
use Rattle.path_server.specs.Kept.{the_tree}
use Rattle.path_server.specs.State.{kept_by}
use Rattle.path_server.proofs.CallLaws.{is_held, make-err, make-exists}
use Rattle.path_server.proofs.tree.PathTree.make.Goals as goal

pub returns-in_err-kept : goal.returns-in_err-kept
returns-in_err-kept c =
    let s = c.args.self.now in
    let p = err_from_is_err_and c.from_residual.result c.from_residual.ensures.1 in
    rw (p.1, p.2) (make-err s.held s.limits s.next s.bytes (kept_by s) s.sound (content_of c.args.kind
    c.args.bytes.now empty) (length c.args.bytes.now) c.args.dir.now c.args.name.now
    c.in_err-kept.field-0.0 c.in_err-kept.ensures)

pub get-requires-clause-whole : goal.get-requires-clause-whole
get-requires-clause-whole c = let s = c.args.self.now in
    (s.stored (is_held s.held (the_tree (kept_by s)) c.requires.tree)).whole

pub make_new-requires-clause-held : goal.make_new-requires-clause-held
make_new-requires-clause-held c = let s = c.args.self.now in is_held s.held (the_tree (kept_by s)) c.requires.tree

pub make_new-requires-clause-new_name : goal.make_new-requires-clause-new_name
make_new-requires-clause-new_name c = sym c.in-Ok-None.ensures ∙ c.in-Ok-None.field-0-is

pub returns-in-Ok-Some : goal.returns-in-Ok-Some
returns-in-Ok-Some c =
    let s = c.args.self.now in
    make-exists s.held s.limits s.next s.bytes (kept_by s) s.sound (content_of c.args.kind c.args.bytes.now empty)
    (length c.args.bytes.now) c.args.dir.now c.args.name.now
    _ c.in_ok-kept.kept c.in_ok-kept.ensures (sym c.in-Ok-Some.ensures ∙ c.in-Ok-Some.field-0-is)
