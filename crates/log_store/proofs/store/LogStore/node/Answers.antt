use Rattle.std.proofs.Common.{◌≡◌, ◌∙◌, Some, ap, sym, subst}
use Rattle.std.specs.Prelude.{option_map}
use Rattle.log_segments.specs.Newest.{find}
use Rattle.log_records.specs.Layout.{node_key, value_of, node_in}
use Rattle.log_store.specs.Store.{live_in, NodeIs}
use Rattle.log_store.proofs.StoreLaws.{node_found, node_size}
use Rattle.log_store.proofs.store.LogStore.node.Goals as goal

pub read_node-requires : goal.read_node-requires
read_node-requires g c =
    let live = live_in g.M.Medium.content g.M.Medium.size c.args.self.now in
    let found : c.in_ok-block.field-0 ≡ find (node_key c.args.id.now) live = c.in_ok-block.ensures.found
    ∙ ap (λ k. find k live) c.in_ok-key.ensures in
    node_size live c.args.id.now c.in-Some.block c.told-id (rw c.in-Some.is at c.in_ok-block.ensures.whole)
    (sym found ∙ c.in-Some.is)

pub returns-in-Some-clause-found : goal.returns-in-Some-clause-found
returns-in-Some-clause-found g c =
    let live = live_in g.M.Medium.content g.M.Medium.size c.args.self.now in
    let found : c.in_ok-block.field-0 ≡ find (node_key c.args.id.now) live = c.in_ok-block.ensures.found
    ∙ ap (λ k. find k live) c.in_ok-key.ensures in
    subst (NodeIs live c.args.id.now) (ap (option_map (λ r. node_in (value_of r))) (sym found ∙ c.in-Some.is)
    ∙ ap Some (sym c.read_node.ensures))
    (node_found live c.args.id.now c.told-id)

pub returns-clause-found : goal.returns-clause-found
returns-clause-found g c =
    let live = live_in g.M.Medium.content g.M.Medium.size c.args.self.now in
    let found : c.in_ok-block.field-0 ≡ find (node_key c.args.id.now) live = c.in_ok-block.ensures.found
    ∙ ap (λ k. find k live) c.in_ok-key.ensures in
    subst (NodeIs live c.args.id.now) (ap (option_map (λ r. node_in (value_of r))) (sym found ∙ c.in-None.is))
    (node_found live c.args.id.now c.told-id)
