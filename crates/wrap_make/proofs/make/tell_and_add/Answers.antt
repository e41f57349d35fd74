use Rattle.wrap_make.proofs.NextGenerations.{index_below, can_rise, is_next, as_next, can_add_next}
use Rattle.wrap_make.proofs.make.tell_and_add.Goals as goal

pub overflow_add-generation : goal.overflow_add-generation
overflow_add-generation g c = can_rise _ c.args.table.now c.requires.0 c.args.name.now _ c.args.place.now c.requires.1
    c.index.result.now c.index.ensures

pub add_new-requires : goal.add_new-requires
add_new-requires g c = (
  c.requires.0,
  can_add_next _ _ c.args.table.now c.requires.0 c.args.name.now _ c.args.place.now c.in_ok-tell_both.ensures.same
      c.in_ok-tell_both.ensures.watched.limits c.requires.1,
)

pub returns-clause-added : goal.returns-clause-added
returns-clause-added g c A can = as_next
    (is_next _ c.args.table.now A c.args.name.now _ c.args.place.now can c.index.result.now c.index.ensures)
    (c.in_ok-at.ensures.added A
    (can_add_next _ _ c.args.table.now A c.args.name.now _ c.args.place.now c.in_ok-tell_both.ensures.same
    c.in_ok-tell_both.ensures.watched.limits can))
