use Rattle.std.proofs.lemmas.Result.{err_from_is_err_and}
use Rattle.path_server.specs.State.{kept_by}
use Rattle.path_server.proofs.NameCallLaws.{remove-no_leaf, remove-ok}
use Rattle.path_server.proofs.tree.PathTree.remove_at.Goals as goal

pub returns-in_err-kept : goal.returns-in_err-kept
returns-in_err-kept c =
    let s = c.args.self.now in
    let p = err_from_is_err_and c.from_residual.result c.from_residual.ensures.1 in
    rw (p.1, p.2) (remove-no_leaf s.held s.limits s.next s.bytes (kept_by s) s.sound c.args.dir.now c.args.name.now
    c.args.within c.requires.dir c.args.node.now c.requires.leads c.requires.held c.in_err-kept.field-0.0
    c.in_err-kept.ensures)

pub returns-in-Ok : goal.returns-in-Ok
returns-in-Ok c = let s = c.args.self.now in
    remove-ok s.held s.limits s.next s.bytes (kept_by s) s.sound c.args.dir.now c.args.name.now c.args.within
    c.requires.dir c.args.node.now c.requires.leads c.in_ok-kept.kept _ c.drop_link.new.self.limits c.in_ok-kept.ensures
    c.in-Ok.ensures.limits c.in-Ok.ensures.ok
