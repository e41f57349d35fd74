use Rattle.std.proofs.Common.{[], ap, subst, sym, ◌∙◌}
use Rattle.log_segments.specs.Newest.{after}
use Rattle.log_records.specs.Spelling.{record_of}
use Rattle.log_records.specs.Layout.{chunk_key}
use Rattle.log_store.specs.Store.{KeepsOthers, DropsChunk, live_in}
use Rattle.log_store.proofs.StoreLaws.{chunk_gone_stands, chunk_dropped, keeps_others, chunk_gone_key}
use Rattle.log_store.specs.Store.{Drops}
use Rattle.log_store.proofs.PutLaws.{drops_chunk}
use Rattle.log_store.proofs.store.LogStore.drop_chunk.Goals as goal

pub put-requires-clause-stands : goal.put-requires-clause-stands
put-requires-clause-stands g c = rw (c.gone_record.ensures, c.in_ok-key.ensures)
    (chunk_gone_stands c.args.id.now c.args.place c.told-id)

pub returns-clause-drops : goal.returns-clause-drops
returns-clause-drops g c =
    let live = live_in g.M.Medium.content g.M.Medium.size c.args.self.now in
    subst (DropsChunk live c.args.id.now c.args.place)
    (sym (c.in_ok-put.ensures.live ∙ ap (after live) (c.gone_record.ensures
    ∙ ap (λ k. record_of 1 k []) c.in_ok-key.ensures)))
    (chunk_dropped live c.args.id.now c.args.place c.told-id c.requires.few c.requires.before)

pub returns-clause-others : goal.returns-clause-others
returns-clause-others g c =
    let live = live_in g.M.Medium.content g.M.Medium.size c.args.self.now in
    subst (KeepsOthers live (chunk_key c.args.id.now c.args.place)) (sym (c.in_ok-put.ensures.live
    ∙ ap (after live) (c.gone_record.ensures ∙ ap (λ k. record_of 1 k []) c.in_ok-key.ensures)))
    (keeps_others live _ (chunk_key c.args.id.now c.args.place) (chunk_gone_key c.args.id.now c.args.place c.told-id))

pub returns-clause-none : goal.returns-clause-none
returns-clause-none g c =
    let live = live_in g.M.Medium.content g.M.Medium.size c.args.self.now in
    subst (Drops live (chunk_key c.args.id.now c.args.place)) (sym (c.in_ok-put.ensures.live
    ∙ ap (after live) (c.gone_record.ensures ∙ ap (λ k. record_of 1 k []) c.in_ok-key.ensures)))
    (drops_chunk live c.args.id.now c.args.place c.told-id)
