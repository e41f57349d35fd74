use Rattle.node_changes.proofs.DropFacts.{dir_below, old_below, stand_valid, can_still_drop}
use Rattle.wrap_names.proofs.drop.tell_and_drop.Goals as goal

pub tell_both-requires-clause-stands : goal.tell_both-requires-clause-stands
tell_both-requires-clause-stands g c = (
  c.requires.0,
  stand_valid _ c.args.table.now c.requires.0 c.args.name.now
      c.args.old.now.dir c.args.old.now.at c.requires.1,
)

pub tell_both-requires-clause-first : goal.tell_both-requires-clause-first
tell_both-requires-clause-first g c = dir_below _ c.args.table.now c.requires.0 c.args.name.now
    c.args.old.now.dir c.args.old.now.at c.requires.1

pub tell_both-requires-clause-second : goal.tell_both-requires-clause-second
tell_both-requires-clause-second g c = old_below _ c.args.table.now c.requires.0 c.args.name.now
    c.args.old.now.dir c.args.old.now.at c.requires.1

pub returns-clause-stands : goal.returns-clause-stands
returns-clause-stands g c A can = c.in_ok-drop_name.ensures.stands A
    (can_still_drop _ _ c.args.table.now A c.args.name.now c.args.old.now.dir c.args.old.now.at
    c.in_ok-tell_both.ensures.same can)

pub returns-clause-tallied : goal.returns-clause-tallied
returns-clause-tallied g c A can = c.in_ok-drop_name.ensures.tallied A
    (can_still_drop _ _ c.args.table.now A c.args.name.now c.args.old.now.dir c.args.old.now.at
    c.in_ok-tell_both.ensures.same can)
