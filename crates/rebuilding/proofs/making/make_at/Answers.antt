use Rattle.std.proofs.Common.{sym, ◌∙◌}
use Rattle.rebuilding.proofs.Makings.{can_begin, made_null, can_fill, made_live, made_none}
use Rattle.rebuilding.proofs.making.make_at.Goals as goal

pub renew-requires-clause-can : goal.renew-requires-clause-can
renew-requires-clause-can g c = can_begin _ _ c.args.staging.now c.args.table.now c.args.index c.args.stay c.args.entry.now c.if-stay.false c.requires.can

pub begin-requires-clause-can : goal.begin-requires-clause-can
begin-requires-clause-can g c = can_begin _ _ c.args.staging.now c.args.table.now c.args.index c.args.stay c.args.entry.now c.if-stay.false c.requires.can

pub fill-requires : goal.fill-requires
fill-requires g c = record {
  can = can_fill _ _ _ c.in_ok-begin.ensures.watched.limits c.args.staging.now c.args.table.now c.begin.new.table c.args.index c.args.stay c.args.entry.now c.if-stay.false
      (sym c.is_null_entry.ensures ∙ c.if-is_null_entry.false) c.requires.can _ c.in_ok-begin.ensures.begun;
}

pub returns-in-Ok-clause-made : goal.returns-in-Ok-clause-made
returns-in-Ok-clause-made g c t A S has can = made_null _ c.args.staging.now c.renew.new.table A S c.args.index c.args.stay c.args.entry.now c.if-stay.false
    (sym c.is_null_entry.ensures ∙ c.if-is_null_entry.true) (c.in-Ok.ensures.begun t A S has (can.begins c.if-stay.false))

pub returns-clause-made : goal.returns-clause-made
returns-clause-made g c t A S has can = made_live _ _ _ c.in_ok-begin.ensures.watched.limits c.args.staging.now c.args.table.now c.begin.new.table c.args.index c.args.stay c.args.entry.now c.if-stay.false
    (sym c.is_null_entry.ensures ∙ c.if-is_null_entry.false) t A S has can _ _
    (c.in_ok-begin.ensures.begun t A S has (can.begins c.if-stay.false)) c.in_ok-fill.ensures.filled
