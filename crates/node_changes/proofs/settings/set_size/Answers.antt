use Rattle.std.proofs.Common.{Some, sym, ap, ◌∙◌}
use Rattle.server_trait.specs.Tree.{edited}
use Rattle.node_changes.specs.Settings.{node_sized}
use Rattle.node_changes.proofs.SetLaws.{none_sized}
use Rattle.node_changes.proofs.settings.set_size.Goals as goal

pub returns-in_default-clause-sized : goal.returns-in_default-clause-sized
returns-in_default-clause-sized g c = none_sized _ c.args.node.now c.args.size c.requires c.in_default.is

pub returns-clause-sized : goal.returns-clause-sized
returns-clause-sized g c t is = c.in_ok-resize.ensures.resized t is
    ∙ ap (λ o. Some (edited t c.args.node.now (node_sized o))) (sym c.in-Some.is)
