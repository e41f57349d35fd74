use Rattle.std.proofs.Common.{ap, subst, sym, ◌∙◌}
use Rattle.log_segments.specs.Newest.{after}
use Rattle.log_records.specs.Layout.{chunk_key}
use Rattle.log_store.specs.Store.{KeepsOthers, PutsChunk, live_in}
use Rattle.log_store.proofs.StoreLaws.{chunk_stands, chunk_put, keeps_others, chunk_key_is}
use Rattle.log_store.specs.Store.{Puts}
use Rattle.log_store.proofs.PutLaws.{puts_chunk}
use Rattle.log_records.specs.Layout.{chunk_in}
use Rattle.log_store.proofs.store.LogStore.put_chunk.Goals as goal

pub put-requires-clause-stands : goal.put-requires-clause-stands
put-requires-clause-stands g c =
    rw c.chunk_record.ensures (chunk_stands c.args.id.now c.args.place c.args.bytes.now c.told-id c.requires.bytes)

pub returns-clause-puts : goal.returns-clause-puts
returns-clause-puts g c =
    let live = live_in g.M.Medium.content g.M.Medium.size c.args.self.now in
    subst (PutsChunk live c.args.id.now c.args.place c.args.bytes.now) (sym (c.in_ok-put.ensures.live
    ∙ ap (after live) c.chunk_record.ensures))
    (chunk_put live c.args.id.now c.args.place c.args.bytes.now c.told-id c.requires.few c.requires.bytes
    c.requires.before)

pub returns-clause-others : goal.returns-clause-others
returns-clause-others g c =
    let live = live_in g.M.Medium.content g.M.Medium.size c.args.self.now in
    subst (KeepsOthers live (chunk_key c.args.id.now c.args.place)) (sym (c.in_ok-put.ensures.live
    ∙ ap (after live) c.chunk_record.ensures))
    (keeps_others live _ (chunk_key c.args.id.now c.args.place)
    (chunk_key_is c.args.id.now c.args.place c.args.bytes.now c.told-id c.requires.bytes))

pub returns-clause-here : goal.returns-clause-here
returns-clause-here g c =
    let live = live_in g.M.Medium.content g.M.Medium.size c.args.self.now in
    subst (Puts chunk_in live (chunk_key c.args.id.now c.args.place) c.args.bytes.now) (sym (c.in_ok-put.ensures.live
    ∙ ap (after live) c.chunk_record.ensures))
    (puts_chunk live c.args.id.now c.args.place c.args.bytes.now c.told-id c.requires.bytes)
