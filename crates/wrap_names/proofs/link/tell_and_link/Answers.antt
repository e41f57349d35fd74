use Rattle.node_changes.proofs.LinkLaws.{link_dir_below, link_object_below, link_valid, can_still_link}
use Rattle.wrap_names.proofs.link.tell_and_link.Goals as goal

pub tell_both-requires-clause-stands : goal.tell_both-requires-clause-stands
tell_both-requires-clause-stands g c = (
  c.requires.0,
  link_valid _ c.args.table.now c.requires.0 c.args.name.now
      c.args.new.now.dir c.args.new.now.at c.requires.1,
)

pub tell_both-requires-clause-first : goal.tell_both-requires-clause-first
tell_both-requires-clause-first g c = link_dir_below _ c.args.table.now c.requires.0 c.args.name.now
    c.args.new.now.dir c.args.new.now.at c.requires.1

pub tell_both-requires-clause-second : goal.tell_both-requires-clause-second
tell_both-requires-clause-second g c = link_object_below _ c.args.table.now c.requires.0 c.args.name.now
    c.args.new.now.dir c.args.new.now.at c.requires.1

pub returns-clause-stands : goal.returns-clause-stands
returns-clause-stands g c A can = c.in_ok-add_link.ensures.stands A
    (can_still_link _ _ c.args.table.now A c.args.name.now c.args.new.now.dir c.args.new.now.at
    c.in_ok-tell_both.ensures.same c.in_ok-tell_both.ensures.watched.limits can)

pub returns-clause-tallied : goal.returns-clause-tallied
returns-clause-tallied g c A can = c.in_ok-add_link.ensures.tallied A
    (can_still_link _ _ c.args.table.now A c.args.name.now c.args.new.now.dir c.args.new.now.at
    c.in_ok-tell_both.ensures.same c.in_ok-tell_both.ensures.watched.limits can)
