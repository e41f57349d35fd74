use Rattle.std.proofs.Common.{◌≡◌, ◌∙◌, ◌/◌, ◌%◌, ◌<◌, ℕ, List, length, take, refl, ap, sym, subst, arith}
use Rattle.std.proofs.lemmas.List.{length-take}
use Rattle.log_segments.specs.Newest.{find}
use Rattle.log_records.specs.Layout.{chunk_key, chunk_in}
use Rattle.log_tree.specs.Held.{Records}
use Rattle.log_store.specs.Store.{Puts, PutsChunk, KeepsOthers, live_in}
use Rattle.log_files.specs.Chunked.{bytes_in}
use Rattle.log_files.proofs.ChunkLaws.{has_before, length-chunk}
use Rattle.log_files.proofs.ResizeLaws.{resized_none, resized_last}
use Rattle.log_files.proofs.resize.cut_last.Goals as goal

pub slice_bounds-front-end : goal.slice_bounds-front-end
slice_bounds-front-end g c =
    let a = c.args in
    let live = live_in g.M.Medium.content g.M.Medium.size a.store.now in
    let place : ℕ = a.to / 480 in
    let few = c.requires.chunked.few in
    let chunk = length-chunk live a.id.now a.size place c.requires.chunked (omega (arith, c.requires.below)) (omega
    (arith, c.requires.below)) in
    let is = ap length (c.deref.ensures.value ∙ c.in_ok-bytes.ensures.bytes) in
    let below = c.requires.below in
    sym (length-take (a.to % 480) c.deref.result.now ∙ omega arith)

pub put_chunk-requires-clause-before : goal.put_chunk-requires-clause-before
put_chunk-requires-clause-before g c =
    let a = c.args in
    let live = live_in g.M.Medium.content g.M.Medium.size in
    let same : live c.chunk_or_none.new.store ≡ live a.store.now =
    rw (c.in_ok-bytes.ensures.reads.content_is, c.in_ok-bytes.ensures.reads.size_is) refl in
    let below = c.requires.below in
    subst (λ (l : Records). (p : ℕ) → p < a.to / 480 → Rattle.std.specs.Option.IsSome (find (chunk_key a.id.now p) l))
    (sym same) (has_before (live a.store.now) a.id.now a.size (a.to / 480) c.requires.chunked (omega arith))

pub returns-clause-cut : goal.returns-clause-cut
returns-clause-cut g c =
    let a = c.args in
    let live = live_in g.M.Medium.content g.M.Medium.size in
    let place : ℕ = a.to / 480 in
    let at : ℕ = a.to % 480 in
    let old = live a.store.now in
    let new = live c.put_chunk.new.self in
    let few = c.requires.chunked.few in
    let same : live c.chunk_or_none.new.store ≡ old =
    rw (c.in_ok-bytes.ensures.reads.content_is, c.in_ok-bytes.ensures.reads.size_is) refl in
    let read : c.deref.result.now ≡ bytes_in (find (chunk_key a.id.now place) old) =
    c.deref.ensures.value ∙ c.in_ok-bytes.ensures.bytes in
    let bytes = take at (bytes_in (find (chunk_key a.id.now place) old)) in
    let e = c.in_ok-put_chunk.ensures in
    let puts : PutsChunk old a.id.now place bytes new =
    subst (λ (b : List ℕ). PutsChunk old a.id.now place (take at b) new) read
    (subst (λ (l : Records). PutsChunk l a.id.now place (take at c.deref.result.now) new) same e.puts) in
    let here : Puts chunk_in old (chunk_key a.id.now place) bytes new =
    subst (λ (b : List ℕ). Puts chunk_in old (chunk_key a.id.now place) (take at b) new) read
    (subst (λ (l : Records). Puts chunk_in l (chunk_key a.id.now place) (take at c.deref.result.now) new) same e.here) in
    let others : KeepsOthers old (chunk_key a.id.now place) new =
    subst (λ (l : Records). KeepsOthers l (chunk_key a.id.now place) new) same e.others in
    resized_last old old new a.id.now a.size a.size place at a.to c.told-id c.requires.chunked
    (resized_none old a.id.now a.size c.told-id c.requires.chunked) (omega arith) (omega arith) c.requires.inside
    (omega arith) c.requires.below c.requires.last puts here others
