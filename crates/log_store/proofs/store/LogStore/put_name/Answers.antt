use Rattle.std.proofs.Common.{ap, subst, sym, ◌∙◌}
use Rattle.log_segments.specs.Newest.{after}
use Rattle.log_tree.specs.Held.{tree_of}
use Rattle.log_records.specs.Layout.{name_key}
use Rattle.log_store.specs.Store.{KeepsOthers, live_in}
use Rattle.log_store.proofs.StoreLaws.{name_stands, name_put, keeps_others, name_key_is}
use Rattle.log_store.specs.Store.{Puts}
use Rattle.log_store.proofs.PutLaws.{puts_name}
use Rattle.log_records.specs.Layout.{child_in}
use Rattle.log_store.proofs.store.LogStore.put_name.Goals as goal

pub put-requires-clause-stands : goal.put-requires-clause-stands
put-requires-clause-stands g c =
    rw c.name_record.ensures (name_stands c.args.dir.now c.args.name.now c.args.child.now c.told-dir c.requires.name
    c.told-child)

pub returns-clause-named : goal.returns-clause-named
returns-clause-named g c =
    ap tree_of (c.in_ok-put.ensures.live ∙ ap (after _) c.name_record.ensures)
    ∙ name_put _ c.args.dir.now c.args.name.now c.args.child.now c.told-dir c.requires.name c.told-child

pub returns-clause-others : goal.returns-clause-others
returns-clause-others g c =
    let live = live_in g.M.Medium.content g.M.Medium.size c.args.self.now in
    subst (KeepsOthers live (name_key c.args.dir.now c.args.name.now)) (sym (c.in_ok-put.ensures.live
    ∙ ap (after live) c.name_record.ensures))
    (keeps_others live _ (name_key c.args.dir.now c.args.name.now)
    (name_key_is c.args.dir.now c.args.name.now c.args.child.now c.told-dir c.requires.name c.told-child))

pub returns-clause-here : goal.returns-clause-here
returns-clause-here g c =
    let live = live_in g.M.Medium.content g.M.Medium.size c.args.self.now in
    subst (Puts child_in live (name_key c.args.dir.now c.args.name.now) c.args.child.now) (sym (c.in_ok-put.ensures.live
    ∙ ap (after live) c.name_record.ensures))
    (puts_name live c.args.dir.now c.args.name.now c.args.child.now c.told-dir c.requires.name c.told-child)
