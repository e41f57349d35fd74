use Rattle.recovery.proofs.HeldItems.{held_node}
use Rattle.recovery.proofs.serving.serve_item.Goals as goal

pub returns-clause-held : goal.returns-clause-held
returns-clause-held g c A st =
    held_node c.args.place c.args.item.level c.args.item.number A c.args.store.now c.in_ok-text-2.text
    c.if-item-eq0.false c.in_ok-text-2.ensures.text c.in_ok-text-2.ensures.some
