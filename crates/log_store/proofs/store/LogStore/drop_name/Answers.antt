use Rattle.std.proofs.Common.{[], ap, arith, subst, sym, ◌∙◌}
use Rattle.log_segments.specs.Newest.{after}
use Rattle.log_tree.specs.Held.{tree_of}
use Rattle.log_records.specs.Spelling.{record_of}
use Rattle.log_records.specs.Layout.{name_key}
use Rattle.log_store.specs.Store.{KeepsOthers, live_in}
use Rattle.log_store.proofs.StoreLaws.{name_gone_stands, name_key_fits, name_dropped, keeps_others, name_gone_key}
use Rattle.log_store.specs.Store.{Drops}
use Rattle.log_store.proofs.PutLaws.{drops_name}
use Rattle.log_store.proofs.store.LogStore.drop_name.Goals as goal

pub gone_record-requires : goal.gone_record-requires
gone_record-requires g c =
    let fits = name_key_fits c.args.dir.now c.args.name.now c.told-dir c.requires.name in rw c.in_ok-key.ensures
    (omega arith)

pub put-requires-clause-stands : goal.put-requires-clause-stands
put-requires-clause-stands g c =
    rw (c.gone_record.ensures, c.in_ok-key.ensures)
    (name_gone_stands c.args.dir.now c.args.name.now c.told-dir c.requires.name)

pub returns-clause-unnamed : goal.returns-clause-unnamed
returns-clause-unnamed g c =
    ap tree_of (c.in_ok-put.ensures.live ∙ ap (after _) (c.gone_record.ensures
    ∙ ap (λ k. record_of 1 k []) c.in_ok-key.ensures))
    ∙ name_dropped _ c.args.dir.now c.args.name.now c.told-dir c.requires.name

pub returns-clause-others : goal.returns-clause-others
returns-clause-others g c =
    let live = live_in g.M.Medium.content g.M.Medium.size c.args.self.now in
    subst (KeepsOthers live (name_key c.args.dir.now c.args.name.now)) (sym (c.in_ok-put.ensures.live
    ∙ ap (after live) (c.gone_record.ensures ∙ ap (λ k. record_of 1 k []) c.in_ok-key.ensures)))
    (keeps_others live _ (name_key c.args.dir.now c.args.name.now)
    (name_gone_key c.args.dir.now c.args.name.now c.told-dir c.requires.name))

pub returns-clause-none : goal.returns-clause-none
returns-clause-none g c =
    let live = live_in g.M.Medium.content g.M.Medium.size c.args.self.now in
    subst (Drops live (name_key c.args.dir.now c.args.name.now)) (sym (c.in_ok-put.ensures.live
    ∙ ap (after live) (c.gone_record.ensures ∙ ap (λ k. record_of 1 k []) c.in_ok-key.ensures)))
    (drops_name live c.args.dir.now c.args.name.now c.told-dir c.requires.name)
