use Rattle.std.proofs.Common.{sym}
use Rattle.wrap_make.proofs.Refusals.{rows_few, no_index, no_space, has_index}
use Rattle.wrap_make.proofs.place.new_index.Goals as goal

pub lowest_null-requires-clause-size : goal.lowest_null-requires-clause-size
lowest_null-requires-clause-size c = rows_few c.args.limits.now c.requires.stands.0 c.args.table.now c.requires.stands.1
    c.requires.within c.requires.stands.2

pub lowest_null-requires-clause-none_below : goal.lowest_null-requires-clause-none_below
lowest_null-requires-clause-none_below c = c.requires.stands.2.tallied.none_below

pub returns-in_default : goal.returns-in_default
returns-in_default c s A k = no_index c.args.limits.now c.args.bytes s c.args.table.now A k c.in_default.ensures

pub returns-then-no_room : goal.returns-then-no_room
returns-then-no_room c s A k = no_space c.args.limits.now c.args.bytes s c.args.table.now A k c.in-Some.index
    c.in-Some.ensures (sym (c.if-no_room.ensures.full A k.tallied))

pub returns : goal.returns
returns c s A k = has_index c.args.limits.now c.args.bytes s c.args.table.now A k c.in-Some.index
    c.in-Some.ensures (sym (c.if-no_room.ensures.full A k.tallied))
