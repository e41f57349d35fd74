use Rattle.wrap_names.proofs.Ways.{can_drop, way_free, way_made}
use Rattle.wrap_names.proofs.rename.make_way.Goals as goal

pub drop_name-requires : goal.drop_name-requires
drop_name-requires g c = (
  c.requires.0,
  can_drop _ c.args.table.now c.requires.0 c.requires.1 c.args.to_name.now
      c.args.ends.now c.requires.2 c.in-Some.over c.in-Some.is,
)

pub returns-in_ok-drop_name-in-Some-clause-way : goal.returns-in_ok-drop_name-in-Some-clause-way
returns-in_ok-drop_name-in-Some-clause-way g c A name can =
    way_made _ c.args.table.now A name c.args.to_name.now c.args.ends.now can
    c.in-Some.over c.in-Some.is c.args.time _ _
    (c.in_ok-drop_name-in-Some.ensures.stands A
    (can_drop _ c.args.table.now A name c.args.to_name.now c.args.ends.now can
    c.in-Some.over c.in-Some.is))
    (c.in_ok-drop_name-in-Some.ensures.tallied A
    (can_drop _ c.args.table.now A name c.args.to_name.now c.args.ends.now can
    c.in-Some.over c.in-Some.is)) c.in_ok-drop_name-in-Some.ensures.handles

pub returns-in-None-clause-way : goal.returns-in-None-clause-way
returns-in-None-clause-way g c A name can = way_free _ c.args.table.now A name c.args.to_name.now c.args.ends.now can
    c.args.time c.in-None.is
