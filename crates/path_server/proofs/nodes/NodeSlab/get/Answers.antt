use Rattle.std.proofs.Common.{option_copied, option_map, sym, ap, ◌∙◌}
use Rattle.path_server.proofs.SlotLaws.{node, part_got}
use Rattle.path_server.proofs.nodes.NodeSlab.get.Goals as goal

pub returns-in-Some : goal.returns-in-Some
returns-in-Some c = ap (option_map node) (sym (ap option_copied c.in-Some.is) ∙ c.slot.ensures)
    ∙ sym (part_got c.args.self.now node c.args.node.now)

pub returns-in-None : goal.returns-in-None
returns-in-None c = ap (option_map node) (sym (ap option_copied c.in-None.is) ∙ c.slot.ensures)
    ∙ sym (part_got c.args.self.now node c.args.node.now)
