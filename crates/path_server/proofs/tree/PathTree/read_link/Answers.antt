use Rattle.std.proofs.Common.{◌∙◌}
use Rattle.std.proofs.lemmas.Result.{err_from_is_err_and}
use Rattle.path_server.specs.State.{kept_by}
use Rattle.path_server.proofs.FileCallLaws.{read_link-ok, read_link-err}
use Rattle.path_server.proofs.tree.PathTree.read_link.Goals as goal

pub returns-in_err-find : goal.returns-in_err-find
returns-in_err-find c =
    let s = c.args.self.now in
    let p = err_from_is_err_and c.from_residual.result c.from_residual.ensures.1 in
    rw (p.1, p.2) (read_link-err s.held s.limits s.next s.bytes (kept_by s) s.sound c.args.link.now
    c.in_err-find.field-0.0 c.in_err-find.ensures)

pub returns-in-Ok : goal.returns-in-Ok
returns-in-Ok c =
    let s = c.args.self.now in
    read_link-ok s.held s.limits s.next s.bytes (kept_by s) s.sound c.args.link.now c.in_ok-find.field-0 c.in-Ok.copy
    c.in_ok-find.ensures (c.in-Ok.ensures.items ∙ c.bytes.ensures)
