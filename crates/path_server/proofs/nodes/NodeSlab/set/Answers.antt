use Rattle.std.proofs.Common.{refl, sym, ap, ◌∙◌}
use Rattle.std.specs.Option.{option_copied_mut}
use Rattle.path_store.proofs.TableLaws.{not-none-at}
use Rattle.path_server.proofs.SlotLaws.{handle, node, nodes_changed, bytes_same}
use Rattle.path_server.proofs.nodes.NodeSlab.set.Goals as goal

pub unreachable-requires : goal.unreachable-requires
unreachable-requires c = not-none-at handle node c.args.self.now.slots.slots c.args.self.now.placed c.place_of.result
    c.args.handle.now (option_copied_mut c.get_mut.result) c.place_of.ensures c.get_mut.ensures.value c.requires
    (ap option_copied_mut c.in_default.is)

pub returns-clause-nodes : goal.returns-clause-nodes
returns-clause-nodes c = nodes_changed c.args.self.now c.args.handle.now c.place_of.result c.place_of.ensures
    c.requires c.in-Some.slot.now (sym c.get_mut.ensures.value ∙ ap option_copied_mut c.in-Some.is) _ refl

pub returns-clause-bytes : goal.returns-clause-bytes
returns-clause-bytes c = bytes_same c.args.self.now c.args.handle.now c.place_of.result c.place_of.ensures
    c.requires c.in-Some.slot.now (sym c.get_mut.ensures.value ∙ ap option_copied_mut c.in-Some.is) _ refl refl
