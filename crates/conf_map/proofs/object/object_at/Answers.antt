use Rattle.conf_map.proofs.ObjectFacts.{object_seen}
use Rattle.conf_map.proofs.Shows.{live_node, object_told}
use Rattle.conf_map.proofs.object.object_at.Goals as goal

pub attr_of-requires : goal.attr_of-requires
attr_of-requires g c =
    live_node _ c.args.table.now c.args.at.now.index c.args.at.now.handle c.requires.stands c.requires.live

pub returns-clause-seen : goal.returns-clause-seen
returns-clause-seen g c A k =
    object_seen _ c.args.table.now A k c.args.at.now.index c.args.at.now.handle c.in_ok-attr.attr c.requires.live c.in_ok-attr.ensures.attr

pub returns-clause-told : goal.returns-clause-told
returns-clause-told g c A k =
    object_told _ c.args.table.now A k c.args.at.now.index c.args.at.now.handle c.in_ok-attr.attr c.requires.live c.in_ok-attr.ensures.attr
