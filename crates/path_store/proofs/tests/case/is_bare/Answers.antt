use Rattle.std.proofs.Common.{not, option_copied, sym, ap, length, ◌==◌, ◌∙◌}
use Rattle.path_store.proofs.CallLaws.{got_none}
use Rattle.path_store.proofs.CaseLaws.{nothing_listed}
use Rattle.path_store.proofs.Rows.{none_of}
use Rattle.path_store.proofs.tests.case.is_bare.Goals as goal

pub returns-then-is_none : goal.returns-then-is_none
returns-then-is_none c = λ _ name. sym (got_none c.args.store.now c.store.inside.whole c.store.inside.keys
    c.store.inside.rows c.store.inside.dirs
    c.store.view_is c.store.invariant c.requires
    c.args.dir.now name c.told-dir (sym c.get.ensures.value
    ∙ ap option_copied (none_of c.get.result (c.is_none.ensures ∙ ap not c.if-is_none.true))))

pub returns-in-Ok : goal.returns-in-Ok
returns-in-Ok c = λ empty name. nothing_listed c.args.store.now.names c.args.dir.now c.in-Ok.rows.items c.told-dir
    c.in-Ok.ensures
    (ap (λ l. length l == 0) (sym c.as_slice.ensures.value) ∙ sym c.is_empty.ensures ∙ empty) name
