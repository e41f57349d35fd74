use Rattle.std.proofs.Common.{sym, ◌∙◌}
use Rattle.std.proofs.lemmas.Result.{err_from_is_err_and}
use Rattle.server_trait.proofs.SoftLaws.{some_of}
use Rattle.path_server.specs.State.{kept_by}
use Rattle.path_server.proofs.RenameCalls.{rename-err_from, rename-err_to, rename-no_entry, rename-taken}
use Rattle.path_server.proofs.tree.PathTree.rename.Goals as goal

pub returns-in_err-within : goal.returns-in_err-within
returns-in_err-within c =
    let s = c.args.self.now in
    let p = err_from_is_err_and c.from_residual.result c.from_residual.ensures.1 in
    rw (p.1, p.2) (rename-err_from s.held s.limits s.next s.bytes (kept_by s) s.sound c.args.from.now c.args.name.now
    c.args.to.now c.args.to_name.now c.in_err-within.field-0.0 c.in_err-within.ensures)

pub returns-in_err-find_dir : goal.returns-in_err-find_dir
returns-in_err-find_dir c =
    let s = c.args.self.now in
    let p = err_from_is_err_and c.from_residual-in_err-find_dir.result c.from_residual-in_err-find_dir.ensures.1 in
    rw (p.1, p.2) (rename-err_to s.held s.limits s.next s.bytes (kept_by s) s.sound c.args.from.now c.args.name.now
    c.args.to.now c.args.to_name.now c.in_err-find_dir.field-0.0 c.in_err-find_dir.ensures)

pub returns-in_default-found : goal.returns-in_default-found
returns-in_default-found c =
    let s = c.args.self.now in
    rename-no_entry s.held s.limits s.next s.bytes (kept_by s) s.sound c.args.from.now c.args.name.now c.args.to.now
    c.args.to_name.now c.in_ok-within.within c.in_ok-within.ensures (sym c.in-Ok.ensures ∙ c.in_default-found.is)

pub returns-then-is_some : goal.returns-then-is_some
returns-then-is_some c =
    let s = c.args.self.now in
    let x = some_of c.in-Ok-get.taken (sym c.is_some.ensures ∙ c.if-is_some.true) in
    rename-taken s.held s.limits s.next s.bytes (kept_by s) s.sound c.args.from.now c.args.name.now c.args.to.now
    c.args.to_name.now c.in_ok-find_dir.field-0 x.0 c.in_ok-find_dir.ensures (sym c.in-Ok-get.ensures ∙ x.1)
