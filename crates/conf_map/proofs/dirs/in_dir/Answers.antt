use Rattle.std.proofs.Common.{sym, ◌∙◌}
use Rattle.conf_map.proofs.Finding.{finds_err}
use Rattle.conf_map.proofs.DirCalls.{dir_stale, dir_other, dir_bad, dir_found}
use Rattle.conf_map.proofs.dirs.in_dir.Goals as goal

pub returns-in_default-clause-found : goal.returns-in_default-clause-found
returns-in_default-clause-found g c A k = finds_err
    (dir_stale _ c.args.table.now A k c.args.dir.now c.args.name.now c.in_default.ensures)

pub returns-then-not-branch-clause-found : goal.returns-then-not-branch-clause-found
returns-then-not-branch-clause-found g c A k = finds_err
    (dir_other _ c.args.table.now A k c.args.dir.now c.args.name.now c.in-Some.d c.in-Some.ensures
    (sym (c.in_ok-is_dir.ensures.is_dir A k) ∙ c.if-not-branch.true))

pub returns-then-is_bad-clause-found : goal.returns-then-is_bad-clause-found
returns-then-is_bad-clause-found g c A k = finds_err
    (dir_bad _ c.args.table.now A k c.args.dir.now c.args.name.now c.in-Some.d c.in-Some.ensures
    (sym (c.in_ok-is_dir.ensures.is_dir A k) ∙ c.if-not-branch.false) (sym c.if-is_bad.ensures))

pub returns-clause-found : goal.returns-clause-found
returns-clause-found g c A k =
    dir_found _ c.args.table.now A k c.args.dir.now c.args.name.now c.in-Some.d c.in-Some.ensures
    (sym (c.in_ok-is_dir.ensures.is_dir A k) ∙ c.if-not-branch.false) (sym c.if-is_bad.ensures)
