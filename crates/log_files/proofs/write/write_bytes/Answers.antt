use Rattle.std.proofs.Common.{◌≡◌, ◌∙◌, ◌+◌, ◌-◌, ◌*◌, ◌/◌, ◌%◌, ◌<◌, ◌≤◌, ℕ, List, [], length, take, ap, arith, subst, refl}
use Rattle.std.specs.Prelude.{max, min}
use Rattle.std.proofs.lemmas.List.{length-take}
use Rattle.nfs2_types.specs.Bytes.{overwritten}
use Rattle.log_segments.specs.Newest.{find}
use Rattle.log_records.specs.Layout.{chunk_key, chunk_in}
use Rattle.log_records.specs.Spelling.{record_of, chunk_value}
use Rattle.log_tree.specs.Held.{Records}
use Rattle.log_tree.proofs.StepLaws.{chunk_laws}
use Rattle.log_store.specs.Store.{Puts, PutsChunk, KeepsOthers, live_in}
use Rattle.log_store.proofs.StoreLaws.{chunk_key_is}
use Rattle.log_files.specs.Chunked.{IsChunked, bytes_in, chunks_of}
use Rattle.log_files.proofs.ChunkLaws.{has_before, wrote, chunked, chunks_more}
use Rattle.log_files.proofs.write.write_bytes.Goals as goal

pub returns-clause-wrote : goal.returns-clause-wrote
returns-clause-wrote g c =
    let content = g.M.Medium.content in
    let size = g.M.Medium.size in
    let a = c.args in
    let id = a.id.now in
    let live = live_in content size a.store.now in
    let new = live_in content size c.put_chunk.new.self in
    let place : ℕ = a.offset / 480 in
    let at : ℕ = a.offset % 480 in
    let n = c.min-count.result in
    let piece = take n a.piece.now in
    let count : n ≡ min (length a.piece.now) (480 - at) = c.min-count.ensures in
    let same : live_in content size c.chunk_or_none.new.store ≡ live =
    rw (c.in_ok-bytes.ensures.reads.content_is, c.in_ok-bytes.ensures.reads.size_is) refl in
    let old : c.in_ok-bytes.bytes.items ≡ bytes_in (find (chunk_key id place) live) = c.in_ok-bytes.ensures.bytes in
    let patch : c.in_ok-bytes-2.bytes.items ≡ overwritten at piece (bytes_in (find (chunk_key id place) live)) =
    c.in_ok-bytes-2.ensures ∙ ap (overwritten at piece) (c.as_slice.ensures.value ∙ old) in
    let put : PutsChunk live id place (overwritten at piece (bytes_in (find (chunk_key id place) live))) new =
    subst (λ (b : List ℕ). PutsChunk live id place b new) (c.as_slice-2.ensures.value ∙ patch)
    (subst (λ (l : Records). PutsChunk l id place c.as_slice-2.result.now new) same c.in_ok-put_chunk.ensures.puts) in
    let key : Puts chunk_in live (chunk_key id place) c.as_slice-2.result.now new =
    subst (λ (l : Records). Puts chunk_in l (chunk_key id place) c.as_slice-2.result.now new) same
    c.in_ok-put_chunk.ensures.here in
    let others : KeepsOthers live (chunk_key id place) new =
    subst (λ (l : Records). KeepsOthers l (chunk_key id place) new) same c.in_ok-put_chunk.ensures.others in
    let few : place < 17477 = omega (arith, c.requires.end, c.requires.some) in
    let before = (chunk_laws live (record_of 2 (chunk_key id place) (chunk_value [])) id place c.told-id few
    (chunk_key_is id place [] c.told-id (omega arith)) (has_before live id a.size place c.requires.chunked (omega
    (arith, c.requires.among)))).before in
    let long : length piece ≡ n = omega (arith, length-take n a.piece.now) in
    let is : a.offset ≡ 480 * place + at = omega arith in
    let inside : at + length piece ≤ 480 = omega arith in
    let some : 1 ≤ length piece = omega (arith, c.requires.some) in
    let end : a.offset + length piece ≤ 8388608 = omega (arith, c.requires.end) in
    record {
      some = omega arith;
      most = omega arith;
      ends = count;
      file = put.file;
      alone = put.alone;
      others = others;
      few = subst (λ (k : ℕ). length new + chunks_of a.size ≤ length live + chunks_of (max a.size (a.offset + k))) long
          (chunks_more live new id a.size a.offset place at (length piece) c.requires.chunked c.requires.among is inside
          some key);
      bytes_are = wrote live new id a.size a.offset place at piece c.requires.chunked c.requires.among is inside some
          end before put others c.told-id;
      chunked = subst (λ (k : ℕ). IsChunked new id (max a.size (a.offset + k))) long
          (chunked live new id a.size a.offset place at piece c.requires.chunked c.requires.among is inside some end
          before put others c.told-id);
    }
