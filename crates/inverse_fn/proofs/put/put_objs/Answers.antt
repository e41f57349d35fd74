use Rattle.std.proofs.Common.{◌≡◌, true, false, length, ap, sym, ◌∙◌, subst, arith}
use Rattle.abs_model.specs.Array.{changed}
use Rattle.abs_model.specs.Valid.{Valid}
use Rattle.conf_map.specs.Stands.{HasRoom, StandsValid}
use Rattle.inverse_fn.proofs.Putting.{valid_for}
use Rattle.inverse_fn.proofs.put.put_objs.Goals as goal

pub entries_of-requires-clause-stands : goal.entries_of-requires-clause-stands
entries_of-requires-clause-stands g c = (c.requires.can.array, valid_for c.args.limits.now _ c.args.table.now c.requires.can.array c.requires.can.within c.requires.can.stands)

pub entries_of-requires-clause-few : goal.entries_of-requires-clause-few
entries_of-requires-clause-few g c =
    let a = c.requires.can.stands.stands.size in
    let b = c.requires.can.stands.valid.size in
    let n = c.requires.can.within.1 in
    omega (arith, a, b, n)

pub rebuild-requires-clause-room : goal.rebuild-requires-clause-room
rebuild-requires-clause-room g c = subst (HasRoom c.args.limits.now) (sym c.in-Ok.ensures.watched.limits) c.requires.can.room

pub returns-clause-invalid : goal.returns-clause-invalid
returns-clause-invalid g c bad A st v =
    let same : c.as_slice.result.now ≡ changed c.args.changes.items A = c.as_slice.ensures.value ∙ c.with_changes-entries.ensures
    ∙ ap (changed c.args.changes.items) (c.in-Ok.ensures.entries A (valid_for c.args.limits.now _ c.args.table.now A c.requires.can.within st)) in
    let on : c.in-Ok-is_valid.valid ≡ true = c.in-Ok-is_valid.ensures.1 (subst (Valid c.args.limits.now) (sym same) v) in
    absurd (let no_such : true ≡ false = sym on ∙ c.if-valid.false in cc)

pub returns-in-Ok-rebuild-clause-stands : goal.returns-in-Ok-rebuild-clause-stands
returns-in-Ok-rebuild-clause-stands g c A st =
    let same : c.as_slice-then-valid.result.now ≡ changed c.args.changes.items A = c.as_slice-then-valid.ensures.value ∙ c.with_changes-entries.ensures
    ∙ ap (changed c.args.changes.items) (c.in-Ok.ensures.entries A (valid_for c.args.limits.now _ c.args.table.now A c.requires.can.within st)) in
    subst (StandsValid c.args.limits.now _ c.rebuild.new.table) same c.in-Ok-rebuild.ensures.stands
