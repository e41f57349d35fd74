use Rattle.abs_text.proofs.NodeForm.{head_is, head_of}
use Rattle.abs_text.proofs.node.is_node_text.Goals as goal

pub returns : goal.returns
returns c =
    let level = c.args.level in
    let number = c.args.number in
    let bytes = c.args.bytes.now in (
      λ yes. head_is level number bytes (c.has_head.ensures.0 yes),
      λ is. c.has_head.ensures.1 (head_of level number bytes is),
    )
