-- The text of a link, as it is put chunk by chunk.
use Rattle.std.proofs.Common.{◌≡◌, ◌∙◌, ◌+◌, ◌/◌, ◌<◌, ◌≤◌, ℕ, List, [], ◌∷◌, ◌++◌, length, take, drop, refl, sym, ap, subst, arith}
use Rattle.std.specs.Prelude.{max}
use Rattle.std.proofs.lemmas.List.{append-nil, drop_all, length-drop, length-take-le, take_all, take-append-drop}
use Rattle.nfs2_types.specs.Bytes.{overwritten}
use Rattle.log_records.specs.Layout.{node_key}
use Rattle.log_tree.specs.Held.{Records, bytes_of}
use Rattle.log_files.specs.Chunked.{IsChunked, WroteBytes, chunks_of}
use Rattle.log_files.proofs.ChunkLaws.{overwritten_is, take_behind}
use Rattle.log_files.proofs.ReadLaws.{length-bytes}
use Rattle.log_files.proofs.ResizeLaws.{keeps_tree}
use Rattle.log_changes.specs.Made.{TextPut}

no_bytes : (b : List ℕ) → length b ≡ 0 → b ≡ []
no_bytes [] e = refl
no_bytes (x ∷ xs) e = absurd (omega arith)

pub text_none : (live : Records) (id : List ℕ) → IsChunked live id 0 → TextPut live live id []
text_none live id h = record {
  bytes_are = no_bytes (bytes_of live id) (length-bytes live id 0 h);
  chunked = h;
  others = λ k _. refl;
  alone = λ _. refl;
  few = omega arith;
}

-- bytes with a piece at their end
at_end : (b piece : List ℕ) (at : ℕ) → length b ≡ at → overwritten at piece b ≡ b ++ piece
at_end b piece at is =
    overwritten_is at piece b (omega arith)
    ∙ (ap (λ xs. xs ++ (piece ++ drop (at + length piece) b)) (take_all at b (omega arith))
    ∙ ap (λ xs. b ++ xs) (ap (λ xs. piece ++ xs) (drop_all (at + length piece) b (omega arith)) ∙ append-nil piece))

take_more : (text : List ℕ) (at count : ℕ) → at ≤ length text
    → take at text ++ take count (drop at text) ≡ take (at + count) text
take_more text at count within =
    let long = length-take-le at text within in
    sym (ap (take (at + count)) (sym (take-append-drop at text))
    ∙ take_behind (take at text) (drop at text) (at + count) count (omega arith))

pub text_more : (live mid new : Records) (id text : List ℕ) (at count : ℕ) → at < length text
    → TextPut live mid id (take at text) → WroteBytes mid new id at at (drop at text) count
    → TextPut live new id (take (at + count) text)
text_more live mid new id text at count below h w =
    let long = length-take-le at text (omega arith) in
    let most = w.most in
    let rest = length-drop at text in
    let all = length-take-le (at + count) text (omega arith) in
    let to : max at (at + count) ≡ length (take (at + count) text) = omega arith in
    record {
      bytes_are = w.bytes_are ∙ (ap (overwritten at (take count (drop at text))) h.bytes_are
          ∙ (at_end (take at text) (take count (drop at text)) at long ∙ take_more text at count (omega arith)));
      chunked = subst (IsChunked new id) to w.chunked;
      others = λ k ne. w.others k (ne (at / 480)) ∙ h.others k ne;
      alone = keeps_tree live mid new id (h.others (node_key id) (λ p e. cc)) h.alone w.alone;
      few =
          let one = h.few in
          let two = w.few in
          let same : chunks_of at ≡ chunks_of (length (take at text)) = ap chunks_of (sym long) in
          let end : chunks_of (max at (at + count)) ≡ chunks_of (length (take (at + count) text)) = ap chunks_of to in
          omega arith;
    }
