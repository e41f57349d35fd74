use Rattle.std.proofs.Common.{sym, ◌∙◌}
use Rattle.std.proofs.lemmas.Result.{err_from_is_err_and}
use Rattle.path_server.specs.Kept.{the_tree}
use Rattle.path_server.specs.State.{kept_by}
use Rattle.path_server.proofs.CallLaws.{is_held}
use Rattle.path_server.proofs.NameCallLaws.{link-err, link-no_dir, link-exists}
use Rattle.path_server.proofs.tree.PathTree.link.Goals as goal

pub returns-in_err-kept : goal.returns-in_err-kept
returns-in_err-kept c =
    let s = c.args.self.now in
    let p = err_from_is_err_and c.from_residual.result c.from_residual.ensures.1 in
    rw (p.1, p.2) (link-err s.held s.limits s.next s.bytes (kept_by s) s.sound c.args.dir.now c.args.name.now
    c.args.node.now c.in_err-kept.field-0.0 c.in_err-kept.ensures)

pub returns-in_err-within : goal.returns-in_err-within
returns-in_err-within c =
    let s = c.args.self.now in
    let p = err_from_is_err_and c.from_residual-in_err-within.result c.from_residual-in_err-within.ensures.1 in
    rw (p.1, p.2) (link-no_dir s.held s.limits s.next s.bytes (kept_by s) s.sound c.args.dir.now c.args.name.now
    c.args.node.now c.in_err-within.field-0.0 c.in_err-within.ensures)

pub get-requires-clause-whole : goal.get-requires-clause-whole
get-requires-clause-whole c = let s = c.args.self.now in
    (s.stored (is_held s.held (the_tree (kept_by s)) c.requires.tree)).whole

pub link_new-requires-clause-held : goal.link_new-requires-clause-held
link_new-requires-clause-held c = let s = c.args.self.now in is_held s.held (the_tree (kept_by s)) c.requires.tree

pub link_new-requires-clause-new_name : goal.link_new-requires-clause-new_name
link_new-requires-clause-new_name c = sym c.in-Ok-None.ensures ∙ c.in-Ok-None.field-0-is

pub returns-in-Ok-Some : goal.returns-in-Ok-Some
returns-in-Ok-Some c = let s = c.args.self.now in
    link-exists s.held s.limits s.next s.bytes (kept_by s) s.sound c.args.dir.now c.args.name.now c.args.node.now
    _ c.in_ok-within.within c.in_ok-within.ensures (sym c.in-Ok-Some.ensures ∙ c.in-Ok-Some.field-0-is)
