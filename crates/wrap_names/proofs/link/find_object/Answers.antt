use Rattle.std.proofs.Common.{sym, ◌∙◌}
use Rattle.wrap_names.proofs.LinkTests.{object_stale, dir_stale, object_refused, object_found}
use Rattle.wrap_names.proofs.link.find_object.Goals as goal

pub returns-in_default-clause-found : goal.returns-in_default-clause-found
returns-in_default-clause-found g c A k = object_stale _ c.args.table.now A k c.args.node.now c.args.dir.now
    c.in_default.ensures

pub returns-then-is_none-clause-found : goal.returns-then-is_none-clause-found
returns-then-is_none-clause-found g c A k = dir_stale _ c.args.table.now A k c.args.node.now c.args.dir.now
    c.in-Some.at c.in-Some.ensures _ c.locate-2.ensures c.if-is_none.ensures

pub returns-then-branch-clause-found : goal.returns-then-branch-clause-found
returns-then-branch-clause-found g c A k = object_refused _ c.args.table.now A k c.args.node.now c.args.dir.now
    c.in-Some.at c.in-Some.ensures _ c.locate-2.ensures c.if-is_none.ensures
    (sym (c.in_ok-is_dir.ensures.is_dir A k) ∙ c.if-branch.true)

pub returns-clause-found : goal.returns-clause-found
returns-clause-found g c A k = object_found _ c.args.table.now A k c.args.node.now c.args.dir.now
    c.in-Some.at c.in-Some.ensures _ c.locate-2.ensures c.if-is_none.ensures
    (sym (c.in_ok-is_dir.ensures.is_dir A k) ∙ c.if-branch.false)
