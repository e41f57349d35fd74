use Rattle.std.proofs.Common.{refl, ◌∙◌, ap}
use Rattle.nfs2_types.specs.Names.{is_name}
use Rattle.staging.proofs.Begins.{lacks_there, room_there, text_there, node_there, unshared_there, begun_after}
use Rattle.staging.proofs.making.begin.Goals as goal

pub make_node-requires-clause-name : goal.make_node-requires-clause-name
make_node-requires-clause-name g c = ap is_name (c.as_bytes.ensures.value ∙ c.in-Ok.ensures.text) ∙ c.in-Ok.ensures.good

pub make_node-requires-clause-lacks : goal.make_node-requires-clause-lacks
make_node-requires-clause-lacks g c = lacks_there _ _ c.args.staging.now c.args.table.now c.args.index c.args.entry.now c.requires.can _ (c.as_bytes.ensures.value ∙ c.in-Ok.ensures.text)

pub make_node-requires-clause-room : goal.make_node-requires-clause-room
make_node-requires-clause-room g c = room_there _ _ c.args.staging.now c.args.table.now c.args.index c.args.entry.now c.requires.can _ (c.as_bytes.ensures.value ∙ c.in-Ok.ensures.text) c.requires.live

pub make_node-requires-clause-text : goal.make_node-requires-clause-text
make_node-requires-clause-text g c = text_there _ _ c.args.staging.now c.args.table.now c.args.index c.args.entry.now c.requires.can _ (c.as_bytes.ensures.value ∙ c.in-Ok.ensures.text)

pub attr_of-requires : goal.attr_of-requires
attr_of-requires g c = node_there _ _ c.args.staging.now c.args.table.now c.args.index c.args.entry.now c.requires.can _ (c.as_bytes.ensures.value ∙ c.in-Ok.ensures.text)
    c.in_ok-handle.handle _ c.in_ok-handle.ensures.made

pub bind_row-requires-clause-unshared : goal.bind_row-requires-clause-unshared
bind_row-requires-clause-unshared g c = unshared_there _ _ c.args.staging.now c.args.table.now c.args.index c.args.entry.now c.requires.can _ (c.as_bytes.ensures.value ∙ c.in-Ok.ensures.text)
    c.in_ok-handle.handle _ c.in_ok-handle.ensures.made

pub returns-in-Ok-bind_row-clause-begun : goal.returns-in-Ok-bind_row-clause-begun
returns-in-Ok-bind_row-clause-begun g c t A S has can = begun_after _ _ c.args.staging.now c.args.table.now c.args.index c.args.entry.now c.requires.can _ (c.as_bytes.ensures.value ∙ c.in-Ok.ensures.text)
    c.in_ok-handle.handle _ c.in_ok-handle.ensures.made t A S has can
    c.in_ok-told.told c.in_ok-told.ensures.attr c.requires.live c.bind_row.new.table _ c.in-Ok-bind_row.ensures.rows c.in-Ok-bind_row.ensures.in_step refl _ c.in_ok-told.ensures.same
