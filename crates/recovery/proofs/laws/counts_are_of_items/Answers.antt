use Rattle.std.proofs.Common.{refl, ◌∙◌, zero-add}
use Rattle.cluster_model.specs.Step.{nodes_of}
use Rattle.recovery.specs.Rebuilt.{from_start}
use Rattle.recovery.proofs.Counted.{nodes_counted, objects_counted}
use Rattle.recovery.proofs.laws.counts_are_of_items.Goals as goal

pub returns-clause-nodes : goal.returns-clause-nodes
returns-clause-nodes c A got b h =
    nodes_counted (from_start b) got b.fetch h.leads ∙ zero-add (nodes_of got)

pub returns-clause-objects : goal.returns-clause-objects
returns-clause-objects c A got b h = objects_counted (from_start b) got b.fetch refl h.leads
