use Rattle.node_changes.proofs.WriteLaws.{no_gap}
use Rattle.node_changes.proofs.put.fill.Goals as goal

pub returns-clause-filled : goal.returns-clause-filled
returns-clause-filled g c = no_gap _ c.args.file.now c.args.size c.args.offset c.requires c.if-size-offset.false
