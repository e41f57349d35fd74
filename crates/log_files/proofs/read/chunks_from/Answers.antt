use Rattle.std.proofs.Common.{◌≡◌, ◌∙◌, ◌++◌, ◌+◌, ap, rules, refl, sym}
use Rattle.log_segments.specs.Newest.{find}
use Rattle.log_records.specs.Layout.{chunk_key}
use Rattle.log_tree.specs.Held.{bytes_from}
use Rattle.log_store.specs.Store.{live_in}
use Rattle.log_files.specs.Chunked.{bytes_in}
use Rattle.log_files.proofs.ReadLaws.{bytes_more, no_chunks}
use Rattle.log_files.proofs.read.chunks_from.Goals as goal

pub loop-step-init : goal.loop-step-init
loop-step-init g c = record {
  all = c.new-all.ensures.items ∙ sym (no_chunks _ c.args.id.now c.args.first);
  store = c.requires.store;
  content_is = refl;
  size_is = refl;
  faults = refl;
}

pub loop-step-preserved : goal.loop-step-preserved
loop-step-preserved g c =
    let i = c.loop-step.invariant in
    let a = c.args in
    let step = c.loop-step.step in
    let live = live_in g.M.Medium.content g.M.Medium.size a.store.now in
    let same : live_in g.M.Medium.content g.M.Medium.size c.loop-step.store
    ≡ live = rw (i.content_is, i.size_is) refl in
    let read : c.in_ok-bytes.bytes.items ≡ bytes_in (find (chunk_key a.id.now (a.first + step)) live) =
    c.in_ok-bytes.ensures.bytes ∙ ap (λ l. bytes_in (find (chunk_key a.id.now (a.first + step)) l)) same in
    let reads = c.in_ok-bytes.ensures.reads in
    let items : c.extend_from_slice.new.self.items
    ≡ c.loop-step.all.items ++ c.as_slice.result.now = rw c.in-Ok.is at c.extend_from_slice.ensures.items in
    record {
      all = items ∙ (ap (λ xs. xs ++ c.as_slice.result.now) i.all
          ∙ (ap (λ xs. bytes_from step live a.id.now a.first ++ xs) (c.as_slice.ensures.value ∙ read)
          ∙ sym (bytes_more live a.id.now step a.first a.count (search rules) c.requires.there)));
      store = reads.store;
      content_is = reads.content_is ∙ i.content_is;
      size_is = reads.size_is ∙ i.size_is;
      faults = reads.cause.ok ∙ i.faults;
    }
