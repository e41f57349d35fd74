use Rattle.log_changes.specs.Kept.{log_live}
use Rattle.log_calls.proofs.FoundLaws.{no_node}
use Rattle.log_calls.proofs.found.find.Goals as goal

pub returns-in_default : goal.returns-in_default
returns-in_default g c = no_node (log_live g.M.Medium.content g.M.Medium.size c.args.tree.now) c.args.handle.now
    c.in_default.ensures
