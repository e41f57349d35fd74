use Rattle.wrap_names.specs.Renames.{cleared}
use Rattle.wrap_names.proofs.Moving.{are_live, stand_of, still_can, move_done, move_tallied}
use Rattle.wrap_names.proofs.rename.tell_and_move.Goals as goal

pub tell_ends-requires-clause-stands : goal.tell_ends-requires-clause-stands
tell_ends-requires-clause-stands g c = (
  c.requires.0,
  stand_of _ c.args.table.now c.requires.0 c.args.name.now
      c.args.to_name.now c.args.ends.now c.requires.1,
)

pub tell_ends-requires-clause-live : goal.tell_ends-requires-clause-live
tell_ends-requires-clause-live g c = are_live c.requires.0 c.args.table.now.rows.items c.args.name.now
    c.args.to_name.now c.args.ends.now c.requires.1.led

pub make_way-requires : goal.make_way-requires
make_way-requires g c = (
  c.requires.0,
  c.args.name.now,
  still_can _ c.args.table.now c.requires.0 c.args.name.now
      c.args.to_name.now c.args.ends.now c.requires.1 _ c.in_ok-tell_ends.ensures.same,
)

pub move_name-requires : goal.move_name-requires
move_name-requires g c = (
  cleared c.requires.0 c.args.ends.now.to.index c.args.to_name.now c.args.ends.now.over c.args.time,
  c.in_ok-make_way.ensures.way c.requires.0 c.args.name.now (still_can _ c.args.table.now c.requires.0 c.args.name.now
      c.args.to_name.now c.args.ends.now c.requires.1 _ c.in_ok-tell_ends.ensures.same),
)

pub returns-clause-stands : goal.returns-clause-stands
returns-clause-stands g c A can = move_done _ c.args.table.now A c.args.name.now c.args.to_name.now c.args.ends.now can
    c.args.time _ _ (c.in_ok-move_name.ensures.stands
    (cleared A c.args.ends.now.to.index c.args.to_name.now c.args.ends.now.over c.args.time)
    (c.in_ok-make_way.ensures.way A c.args.name.now (still_can _ c.args.table.now A c.args.name.now
    c.args.to_name.now c.args.ends.now can _ c.in_ok-tell_ends.ensures.same)))

pub returns-clause-tallied : goal.returns-clause-tallied
returns-clause-tallied g c A can =
    move_tallied _ c.args.table.now A c.args.name.now c.args.to_name.now c.args.ends.now can
    c.args.time c.move_name.new.table (c.in_ok-move_name.ensures.tallied
    (cleared A c.args.ends.now.to.index c.args.to_name.now c.args.ends.now.over c.args.time)
    (c.in_ok-make_way.ensures.way A c.args.name.now (still_can _ c.args.table.now A c.args.name.now
    c.args.to_name.now c.args.ends.now can _ c.in_ok-tell_ends.ensures.same)))
