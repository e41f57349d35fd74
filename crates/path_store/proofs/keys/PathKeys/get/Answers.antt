use Rattle.std.proofs.Common.{◌∙◌}
use Rattle.path_store.proofs.Rows.{got-rows}
use Rattle.path_store.proofs.keys.PathKeys.get.Goals as goal

pub returns : goal.returns
returns c = got-rows c.self.inside.keys.entries c.args.self.now c.self.view_is c.copied.result c.args.path.now
    (c.copied.ensures ∙ c.get.ensures.value)
