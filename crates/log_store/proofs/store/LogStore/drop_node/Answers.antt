use Rattle.std.proofs.Common.{[], ap, subst, sym, ◌∙◌}
use Rattle.log_segments.specs.Newest.{after}
use Rattle.log_records.specs.Spelling.{record_of}
use Rattle.log_tree.specs.Held.{tree_of}
use Rattle.log_records.specs.Layout.{node_key}
use Rattle.log_store.specs.Store.{KeepsOthers, live_in}
use Rattle.log_store.proofs.StoreLaws.{node_gone_stands, node_dropped, keeps_others, node_gone_key}
use Rattle.log_store.specs.Store.{Drops}
use Rattle.log_store.proofs.PutLaws.{drops_node}
use Rattle.log_store.proofs.store.LogStore.drop_node.Goals as goal

pub put-requires-clause-stands : goal.put-requires-clause-stands
put-requires-clause-stands g c = rw (c.gone_record.ensures, c.in_ok-key.ensures)
    (node_gone_stands c.args.id.now c.told-id)

pub returns-clause-gone : goal.returns-clause-gone
returns-clause-gone g c =
    let live = live_in g.M.Medium.content g.M.Medium.size c.args.self.now in
    ap tree_of (c.in_ok-put.ensures.live ∙ ap (after live) (c.gone_record.ensures
    ∙ ap (λ k. record_of 1 k []) c.in_ok-key.ensures))
    ∙ node_dropped live c.args.id.now c.told-id

pub returns-clause-others : goal.returns-clause-others
returns-clause-others g c =
    let live = live_in g.M.Medium.content g.M.Medium.size c.args.self.now in
    subst (KeepsOthers live (node_key c.args.id.now)) (sym (c.in_ok-put.ensures.live
    ∙ ap (after live) (c.gone_record.ensures ∙ ap (λ k. record_of 1 k []) c.in_ok-key.ensures)))
    (keeps_others live _ (node_key c.args.id.now) (node_gone_key c.args.id.now c.told-id))

pub returns-clause-none : goal.returns-clause-none
returns-clause-none g c =
    let live = live_in g.M.Medium.content g.M.Medium.size c.args.self.now in
    subst (Drops live (node_key c.args.id.now)) (sym (c.in_ok-put.ensures.live
    ∙ ap (after live) (c.gone_record.ensures ∙ ap (λ k. record_of 1 k []) c.in_ok-key.ensures)))
    (drops_node live c.args.id.now c.told-id)
