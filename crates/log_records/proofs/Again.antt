-- What is written is read again.
use Rattle.std.proofs.Common.{◌≡◌, ◌∙◌, ◌+◌, ◌-◌, ◌*◌, ◌/◌, ◌%◌, ◌++◌, ℕ, List, ◌∷◌, length, take, drop, replicate, refl, sym, ap, arith}
use Rattle.std.proofs.lemmas.List.{length-append, length-replicate, take_at, drop_at, drop-drop}
use Rattle.std.proofs.lemmas.Nat.{from_be_bytes-to_be_bytes_4}
use Rattle.nfs2_types.specs.declared.fattr.Kind.{Kind}
use Rattle.nfs2_types.specs.declared.fattr.Kind.TheVariants.{File, Dir, Link}
use Rattle.log_segments.specs.Record.{key_of}
use Rattle.log_records.specs.Laws.{PartsAgain, NodeAgain, ChildAgain, ChunkAgain}
use Rattle.log_records.specs.Layout.{kind_of, value_of, node_in, chunk_in}
use Rattle.log_records.specs.Spelling.{record_of, byte_of}

-- a number in two bytes
two_bytes : (n : ℕ) → 256 * (n / 256) + n % 256 ≡ n
two_bytes n = omega arith

pub parts_again : PartsAgain
unfolding record_of key_of value_of
parts_again mark key value fits =
    let zeros : List ℕ = replicate (509 - (length key + length value)) 0 in
    let rest = value ++ zeros in
    let size = two_bytes (length key) in
    let length-zeros = length-replicate {A = ℕ} (509 - (length key + length value)) 0 in
    record {
      key_is = ap (λ n. take n (key ++ rest)) size ∙ take_at key rest (length key) refl;
      size_is = size;
      value_is = ap (λ n. drop (3 + n) (mark ∷ length key / 256 ∷ length key % 256 ∷ (key ++ rest))) size
          ∙ (sym (drop-drop (length key) 3 (mark ∷ length key / 256 ∷ length key % 256 ∷ (key ++ rest)))
          ∙ drop_at key rest (length key) refl);
      end_is = refl;
      gone_is = refl;
      whole = omega (arith, length-append key rest, length-append value zeros, length-zeros);
    }

kind_again : (kind : Kind) → kind_of (byte_of kind) ≡ kind
kind_again File = refl
kind_again Dir = refl
kind_again Link = refl

pub node_again : NodeAgain
unfolding node_in
node_again node rest fits =
    let kind = kind_again node.kind in
    let mode = from_be_bytes-to_be_bytes_4 node.mode fits.mode in
    let uid = from_be_bytes-to_be_bytes_4 node.uid fits.uid in
    let gid = from_be_bytes-to_be_bytes_4 node.gid fits.gid in
    rw (kind, mode, uid, gid) refl

pub child_again : ChildAgain
child_again id rest eight = take_at id rest 8 eight

pub chunk_again : ChunkAgain
unfolding chunk_in
chunk_again bytes rest = ap (λ n. take n (bytes ++ rest)) (two_bytes (length bytes))
    ∙ take_at bytes rest (length bytes) refl
