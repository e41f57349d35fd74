use Rattle.std.proofs.Common.{refl, sym, ap, ◌∙◌}
use Rattle.std.specs.FinMap.{insert}
use Rattle.std.specs.Option.{option_copied_mut}
use Rattle.path_store.proofs.TableLaws.{not-none-at}
use Rattle.path_server.specs.Bytes.{rewritten}
use Rattle.path_server.specs.Slots.{bytes_in}
use Rattle.path_server.proofs.SlotLaws.{handle, node, bytes_changed, nodes_same, bytes_were}
use Rattle.path_server.proofs.nodes.NodeSlab.rewrite.Goals as goal

pub unreachable-requires : goal.unreachable-requires
unreachable-requires c = not-none-at handle node c.args.self.now.slots.slots c.args.self.now.placed c.place_of.result
    c.args.handle.now (option_copied_mut c.get_mut.result) c.place_of.ensures c.get_mut.ensures.value
    c.requires.there (ap option_copied_mut c.in_default.is)

pub returns-clause-nodes : goal.returns-clause-nodes
returns-clause-nodes c = nodes_same c.args.self.now c.args.handle.now c.place_of.result c.place_of.ensures
    c.requires.there c.in-Some.slot.now (sym c.get_mut.ensures.value ∙ ap option_copied_mut c.in-Some.is) _ refl refl

pub returns-clause-bytes : goal.returns-clause-bytes
returns-clause-bytes c = bytes_changed c.args.self.now c.args.handle.now c.place_of.result c.place_of.ensures
    c.requires.there c.in-Some.slot.now (sym c.get_mut.ensures.value ∙ ap option_copied_mut c.in-Some.is) _ refl
    ∙ ap (insert (bytes_in c.args.self.now) c.args.handle.now) (c.in_ok-rewrite.ensures
    ∙ ap (rewritten c.args.size c.args.offset c.args.piece.now) (sym (bytes_were c.args.self.now c.args.handle.now
    c.place_of.result c.place_of.ensures c.requires.there c.in-Some.slot.now
    (sym c.get_mut.ensures.value ∙ ap option_copied_mut c.in-Some.is) c.in-Some.slot.now refl)))
