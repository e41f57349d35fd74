use Rattle.staging.proofs.Places.{can_move_here, placed_here}
use Rattle.staging.proofs.names.place.Goals as goal

pub move_name-requires-clause-can : goal.move_name-requires-clause-can
move_name-requires-clause-can g c = can_move_here _ c.args.staging.now c.args.table.now c.args.staged_name.now
    c.args.d.now c.args.row.now c.as_slice.result.now c.as_slice.ensures c.requires.can

pub returns-clause-placed : goal.returns-clause-placed
returns-clause-placed g c t A C S has can = placed_here t c.args.staging.now c.args.table.now A C S
    c.args.staged_name.now c.args.d.now c.args.row.now can _ c.as_slice.result.now c.as_slice.ensures
    (c.in_ok-move_name.ensures.moved t has)
