-- How the bytes of a file, or of a link's text, stand in chunks.
use Rattle.std.specs.Prelude.{◌≡◌, ◌+◌, ◌-◌, ◌*◌, ◌/◌, ◌%◌, ◌≤◌, ◌<◌, ◌≢◌, ◌^◌, ℕ, List, [], length, take, min, max, Option, None, Some, IsSome, IsSomeAnd}
use Rattle.nfs2_types.specs.Bytes.{overwritten, resized}
use Rattle.log_segments.specs.Newest.{find}
use Rattle.log_records.specs.Layout.{chunk_key, value_of, chunk_in}
use Rattle.log_tree.specs.Held.{Records, bytes_of}
use Rattle.log_store.specs.Store.{HasOtherBytes, KeepsOthers, KeepsTree}

-- so many bytes stand in chunks of 480, of which the last may have fewer
pub record IsChunked (live : Records) (id : List ℕ) (size : ℕ) : Type 0 where
  pub few : size ≤ 480 * 17477
  pub there : (p : ℕ) → 480 * p < size →
      IsSomeAnd (find (chunk_key id p) live) (λ r. length (chunk_in (value_of r)) ≡ min 480 (size - 480 * p))
  pub absent : (p : ℕ) → size ≤ 480 * p → p < 2 ^ 32 → find (chunk_key id p) live ≡ None

-- a chunk's bytes, or none where it is not there
abbrev pub bytes_in : Option (List ℕ) → List ℕ
bytes_in None = []
bytes_in (Some r) = chunk_in (value_of r)

-- how many chunks so many bytes have
abbrev pub chunks_of : ℕ → ℕ
chunks_of size = (size + 479) / 480

-- some bytes of a piece, at least one, up to the end of a chunk, stand at an offset; another node contains what it
-- contained
pub record WroteBytes (live new : Records) (id : List ℕ) (size offset : ℕ) (piece : List ℕ) (count : ℕ) : Type 0 where
  pub some : 1 ≤ count
  pub most : count ≤ length piece
  pub ends : count ≡ min (length piece) (480 - offset % 480)
  pub bytes_are : bytes_of new id ≡ overwritten offset (take count piece) (bytes_of live id)
  pub chunked : IsChunked new id (max size (offset + count))
  pub file : HasOtherBytes live id new
  pub alone : KeepsTree live id new
  pub others : KeepsOthers live (chunk_key id (offset / 480)) new
  pub few : length new + chunks_of size ≤ length live + chunks_of (max size (offset + count))

-- all keys are found as before, but for those of a node's chunks
abbrev pub KeepsButChunks : Records → List ℕ → Records → Type 0
KeepsButChunks live id new = (k : List ℕ) → ((p : ℕ) → k ≢ chunk_key id p) → find k new ≡ find k live

-- the bytes of a node, which were so many, are cut or filled with zeros; another node contains what it contained
pub record ResizedBytes (live new : Records) (id : List ℕ) (size to : ℕ) : Type 0 where
  pub bytes_are : bytes_of new id ≡ resized to (bytes_of live id)
  pub chunked : IsChunked new id to
  pub file : HasOtherBytes live id new
  pub alone : KeepsTree live id new
  pub others : KeepsButChunks live id new
  pub few : length new + chunks_of size ≤ length live + chunks_of to

-- so many chunks of a node are there, from a place on
abbrev pub AreThere : Records → List ℕ → ℕ → ℕ → Type 0
AreThere live id first count = (k : ℕ) → k < count → IsSome (find (chunk_key id (first + k)) live)
