use Rattle.std.proofs.Common.{ap, subst, sym, ◌∙◌}
use Rattle.log_segments.specs.Newest.{after}
use Rattle.log_records.specs.declared.node.NodeRecord.{NodeRecord}
use Rattle.log_records.specs.Layout.{node_key}
use Rattle.log_store.specs.Store.{KeepsOthers, PutsNode, live_in}
use Rattle.log_store.proofs.StoreLaws.{node_stands, node_put, keeps_others, node_key_is}
use Rattle.log_store.specs.Store.{Puts}
use Rattle.log_store.proofs.PutLaws.{puts_node}
use Rattle.log_records.specs.Layout.{node_in}
use Rattle.log_store.proofs.store.LogStore.put_node.Goals as goal

pub put-requires-clause-stands : goal.put-requires-clause-stands
put-requires-clause-stands g c = rw c.node_record.ensures (node_stands c.args.id.now _ c.told-id)

pub returns-clause-puts : goal.returns-clause-puts
returns-clause-puts g c =
    let a = c.args in
    let live = live_in g.M.Medium.content g.M.Medium.size a.self.now in
    let node : NodeRecord = record { kind = a.kind; mode = a.mode; uid = a.uid; gid = a.gid } in
    subst (PutsNode live a.id.now node) (sym (c.in_ok-put.ensures.live ∙ ap (after live) c.node_record.ensures))
    (node_put live a.id.now node c.told-id (record {
      mode = c.ranges.mode.fits;
      uid = c.ranges.uid.fits;
      gid =
          c.ranges.gid.fits;
    }))

pub returns-clause-others : goal.returns-clause-others
returns-clause-others g c =
    let live = live_in g.M.Medium.content g.M.Medium.size c.args.self.now in
    subst (KeepsOthers live (node_key c.args.id.now)) (sym (c.in_ok-put.ensures.live
    ∙ ap (after live) c.node_record.ensures))
    (keeps_others live _ (node_key c.args.id.now) (node_key_is c.args.id.now _ c.told-id))

pub returns-clause-here : goal.returns-clause-here
returns-clause-here g c =
    let a = c.args in
    let live = live_in g.M.Medium.content g.M.Medium.size a.self.now in
    let node : NodeRecord = record { kind = a.kind; mode = a.mode; uid = a.uid; gid = a.gid } in
    subst (Puts node_in live (node_key a.id.now) node) (sym (c.in_ok-put.ensures.live
    ∙ ap (after live) c.node_record.ensures))
    (puts_node live a.id.now node c.told-id (record {
      mode = c.ranges.mode.fits;
      uid = c.ranges.uid.fits;
      gid = c.ranges.gid.fits;
    }))
