use Rattle.std.proofs.Common.{option_copied, ap, ◌∙◌}
use Rattle.path_server.proofs.SlotLaws.{bytes_of_slot}
use Rattle.path_server.proofs.nodes.NodeSlab.bytes.Goals as goal

pub returns-in-Some : goal.returns-in-Some
returns-in-Some c = c.as_slice.ensures.value
    ∙ bytes_of_slot c.args.self.now c.args.node.now (option_copied c.slot.result) c.slot.ensures
    (ap option_copied c.in-Some.is)

pub returns-in-None : goal.returns-in-None
returns-in-None c = bytes_of_slot c.args.self.now c.args.node.now (option_copied c.slot.result) c.slot.ensures
    (ap option_copied c.in-None.is)
