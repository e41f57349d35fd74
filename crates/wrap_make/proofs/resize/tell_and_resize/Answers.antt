use Rattle.wrap_make.proofs.GivenSizes.{can_resize, given_stands, given_tallied, none_stands, none_tallied}
use Rattle.wrap_make.proofs.resize.tell_and_resize.Goals as goal

pub modify-requires-clause-stands : goal.modify-requires-clause-stands
modify-requires-clause-stands g c = (
  c.requires.0,
  record {
    limits = c.requires.1.limits;
    within = c.requires.1.within;
    valid = c.requires.1.valid;
    stands = c.requires.1.stands;
    tallied = c.requires.1.tallied;
  },
)

pub resize_file-requires : goal.resize_file-requires
resize_file-requires g c = (
  c.requires.0,
  can_resize _ c.args.table.now c.requires.0 c.args.at.now c.args.before c.args.size c.in-Some.size c.in-Some.is
      c.requires.1 _ c.in_ok-modify.ensures.tree c.in_ok-modify.ensures.watched.limits,
)

pub returns-in_default-clause-stands : goal.returns-in_default-clause-stands
returns-in_default-clause-stands g c A can = none_stands A c.args.at.now.index c.args.size c.args.time _
    c.args.table.now c.in_default.is can.stands

pub returns-in_default-clause-tallied : goal.returns-in_default-clause-tallied
returns-in_default-clause-tallied g c A can = none_tallied A c.args.at.now.index c.args.size c.args.time
    c.args.table.now c.in_default.is can.tallied

pub returns-clause-stands : goal.returns-clause-stands
returns-clause-stands g c A can = given_stands A c.args.at.now.index c.args.size c.in-Some.size c.args.time _
    c.resize_file.new.table c.in-Some.is
    (c.in_ok-resize_file.ensures.stands A (can_resize _ c.args.table.now A c.args.at.now c.args.before c.args.size
    c.in-Some.size c.in-Some.is can _ c.in_ok-modify.ensures.tree c.in_ok-modify.ensures.watched.limits))

pub returns-clause-tallied : goal.returns-clause-tallied
returns-clause-tallied g c A can = given_tallied A c.args.at.now.index c.args.size c.in-Some.size c.args.time
    c.resize_file.new.table c.in-Some.is
    (c.in_ok-resize_file.ensures.tallied A (can_resize _ c.args.table.now A c.args.at.now c.args.before c.args.size
    c.in-Some.size c.in-Some.is can _ c.in_ok-modify.ensures.tree c.in_ok-modify.ensures.watched.limits))
