use Rattle.std.proofs.Common.{sym, subst, ◌∙◌}
use Rattle.conf_map.specs.Stands.{StandValid}
use Rattle.wrap_names.proofs.EndTests.{from_stale, to_stale, from_other, to_other, dirs_found}
use Rattle.wrap_names.proofs.ends.dirs_of.Goals as goal

pub returns-in_default-clause-found : goal.returns-in_default-clause-found
returns-in_default-clause-found g c A k =
    from_stale _ c.args.table.now A k c.args.from.now c.args.to.now c.in_default.ensures

pub returns-in_default-locate-clause-found : goal.returns-in_default-locate-clause-found
returns-in_default-locate-clause-found g c A k =
    to_stale _ c.args.table.now A k c.args.from.now c.args.to.now c.in-Some.first c.in-Some.ensures
    c.in_default-locate.ensures

pub returns-then-not-branch-clause-found : goal.returns-then-not-branch-clause-found
returns-then-not-branch-clause-found g c A k =
    from_other _ c.args.table.now A k c.args.from.now c.args.to.now c.in-Some.first c.in-Some.ensures
    c.in-Some-locate.second c.in-Some-locate.ensures (sym (c.in_ok-is_dir.ensures.is_dir A k) ∙ c.if-not-branch.true)

pub returns-then-not-branch-2-clause-found : goal.returns-then-not-branch-2-clause-found
returns-then-not-branch-2-clause-found g c A k =
    to_other _ c.args.table.now A k c.args.from.now c.args.to.now c.in-Some.first c.in-Some.ensures
    c.in-Some-locate.second c.in-Some-locate.ensures (sym (c.in_ok-is_dir.ensures.is_dir A k) ∙ c.if-not-branch.false)
    (sym (c.in_ok-is_dir-2.ensures.is_dir A
    (subst (λ s. StandValid s c.args.table.now A) (sym c.in_ok-is_dir.ensures.same) k)) ∙ c.if-not-branch-2.true)

pub returns-clause-found : goal.returns-clause-found
returns-clause-found g c A k =
    dirs_found _ c.args.table.now A k c.args.from.now c.args.to.now c.in-Some.first c.in-Some.ensures
    c.in-Some-locate.second c.in-Some-locate.ensures (sym (c.in_ok-is_dir.ensures.is_dir A k) ∙ c.if-not-branch.false)
    (sym (c.in_ok-is_dir-2.ensures.is_dir A
    (subst (λ s. StandValid s c.args.table.now A) (sym c.in_ok-is_dir.ensures.same) k)) ∙ c.if-not-branch-2.false)
