use Rattle.std.proofs.Common.{option_copied, sym, ap, ◌∙◌}
use Rattle.path_store.proofs.Rows.{alike, unlike}
use Rattle.path_store.proofs.TableLaws.{none-at, other-at, here-at}
use Rattle.path_server.proofs.SlotLaws.{handle}
use Rattle.path_server.proofs.nodes.NodeSlab.slot.Goals as goal

pub returns-in_default : goal.returns-in_default
returns-in_default c = none-at handle (λ x. x) c.args.self.now.slots.slots c.args.self.now.placed c.place_of.result
    c.args.node.now (option_copied c.get.result) c.place_of.ensures c.get.ensures (ap option_copied c.in_default.is)

pub returns-then-ne : goal.returns-then-ne
returns-then-ne c = other-at handle (λ x. x) c.args.self.now.slots.slots c.args.self.now.placed c.place_of.result
    c.args.node.now (option_copied c.get.result) c.place_of.ensures c.get.ensures c.in-Some.slot.now
    (ap option_copied c.in-Some.is) (unlike _ _ (sym c.ne.ensures ∙ c.if-ne.true))

pub returns : goal.returns
returns c = here-at handle (λ x. x) c.args.self.now.slots.slots c.args.self.now.placed c.place_of.result
    c.args.node.now (option_copied c.get.result) c.place_of.ensures c.get.ensures c.in-Some.slot.now
    (ap option_copied c.in-Some.is) (alike _ _ (sym c.ne.ensures ∙ c.if-ne.false))
