use Rattle.std.proofs.Common.{◌≡◌, ◌∙◌, ap, sym}
use Rattle.log_segments.specs.Newest.{find}
use Rattle.log_records.specs.Layout.{chunk_key}
use Rattle.log_store.specs.Store.{live_in}
use Rattle.log_store.proofs.StoreLaws.{chunk_size}
use Rattle.log_store.proofs.store.LogStore.chunk.Goals as goal

pub read_chunk-requires : goal.read_chunk-requires
read_chunk-requires g c =
    let live = live_in g.M.Medium.content g.M.Medium.size c.args.self.now in
    let found : c.in_ok-block.field-0 ≡ find (chunk_key c.args.id.now c.args.place) live =
    c.in_ok-block.ensures.found ∙ ap (λ k. find k live) c.in_ok-key.ensures in
    chunk_size live c.args.id.now c.args.place c.in-Some.block c.told-id
    (rw c.in-Some.is at c.in_ok-block.ensures.whole) (sym found ∙ c.in-Some.is)
