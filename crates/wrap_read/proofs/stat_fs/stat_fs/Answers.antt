use Rattle.std.proofs.Common.{◌-◌, ◌/◌, ap, ◌∙◌}
use Rattle.wrap_read.proofs.ContentAnswers.{space_stale, space_answer}
use Rattle.wrap_read.proofs.stat_fs.stat_fs.Goals as goal

pub returns-in_default : goal.returns-in_default
returns-in_default c A s cred t k =
    space_stale A c.args.limits.now cred t s c.args.table.now k.stands c.args.node.now c.in_default.ensures

pub returns : goal.returns
returns c A s cred t k =
    space_answer A c.args.limits.now cred t s c.args.table.now k.stands c.args.node.now c.in-Some.field-0
    c.free_blocks-left.result c.in-Some.ensures
    (c.free_blocks-left.ensures ∙ ap (λ u. (c.args.limits.now.t - u) / 512) k.tallied.used)
