use Rattle.std.proofs.Common.{◌≡◌, length, ap, ◌∙◌}
use Rattle.cluster_model.specs.Loose.{held_digests}
use Rattle.partition_tree.specs.Digests.{IsNode, node_at}
use Rattle.cow_checkpoint.specs.Store.{Store, IsNodeText}
use Rattle.cow_checkpoint.specs.Held.{held_at}
use Rattle.cow_checkpoint.proofs.Texts.{of_found, of_none, of_some, to_some, not_some, each_some}
use Rattle.cow_checkpoint.proofs.store.CheckpointStore.node.Goals as goal

pub returns-in-Some-clause-text : goal.returns-in-Some-clause-text
returns-in-Some-clause-text c =
    let place = c.args.place in
    let holds = c.args.self.now.holds in
    let found = c.in-Some.ensures ∙ ap (λ (s : Store). held_at place s.holds) c.self.view_is in
    let is = of_found place holds c.in-Some.c.now found in
    each_some c.node.result (λ text. text ≡ node_at c.in-Some.c.now.digests c.args.level c.args.number)
    (λ text. IsNodeText place c.args.level c.args.number holds text)
    (λ text same. of_some (held_digests place holds) c.in-Some.c.now.digests
    (λ ds. text ≡ node_at ds c.args.level c.args.number) is same)
    c.node.ensures.text

pub returns-in-Some-clause-some : goal.returns-in-Some-clause-some
returns-in-Some-clause-some c =
    let place = c.args.place in
    let holds = c.args.self.now.holds in
    let found = c.in-Some.ensures ∙ ap (λ (s : Store). held_at place s.holds) c.self.view_is in
    let is = of_found place holds c.in-Some.c.now found in (
      λ some. of_some (held_digests place holds) c.in-Some.c.now.digests
          (λ ds. IsNode (length ds) c.args.level c.args.number) is (c.node.ensures.some.0 some),
      λ node. c.node.ensures.some.1 (to_some (held_digests place holds) c.in-Some.c.now.digests
          (λ ds. IsNode (length ds) c.args.level c.args.number) is node),
    )

pub returns-in-None-clause-some : goal.returns-in-None-clause-some
returns-in-None-clause-some c =
    let place = c.args.place in
    let holds = c.args.self.now.holds in
    let found = c.in-None.ensures ∙ ap (λ (s : Store). held_at place s.holds) c.self.view_is in (
      λ e. absurd cc,
      λ node. absurd (not_some (held_digests place holds) (λ ds. IsNode (length ds) c.args.level c.args.number)
          (of_none place holds found) node),
    )
