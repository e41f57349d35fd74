use Rattle.std.proofs.Common.{◌∙◌}
use Rattle.wrap_names.proofs.RowClimbs.{below_agrees}
use Rattle.wrap_names.proofs.below.is_below.Goals as goal

pub returns : goal.returns
returns c = λ s A k dir. c.climbs.ensures ∙ below_agrees s c.args.table.now A k c.args.moved c.args.dir dir
