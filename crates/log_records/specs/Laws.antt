-- That a record is read as it was written.
use Rattle.std.specs.Prelude.{◌≡◌, ◌+◌, ◌-◌, ◌^◌, ◌≤◌, ◌<◌, ◌==◌, ℕ, List, ◌++◌, length, replicate}
use Rattle.log_segments.specs.Record.{is_end, is_gone, key_of}
use Rattle.log_records.specs.declared.node.NodeRecord.{NodeRecord}
use Rattle.log_records.specs.Layout.{key_size, value_of, node_in, child_in, chunk_in}
use Rattle.log_records.specs.Spelling.{record_of, node_value, chunk_value}

-- the parts of a record
pub record HasParts (block : List ℕ) (mark : ℕ) (key value : List ℕ) : Type 0 where
  pub key_is : key_of block ≡ key
  pub size_is : key_size block ≡ length key
  pub value_is : value_of block ≡ value ++ replicate (509 - (length key + length value)) 0
  pub end_is : is_end block ≡ (mark == 0)
  pub gone_is : is_gone block ≡ (mark == 1)
  pub whole : length block ≡ 512

-- a record has the parts of which it is made
abbrev pub PartsAgain : Type 0
PartsAgain = (mark : ℕ) (key value : List ℕ) → 3 + length key + length value ≤ 512
    → HasParts (record_of mark key value) mark key value

-- the numbers of a node fit four bytes each
pub record NodeFits (node : NodeRecord) : Type 0 where
  pub mode : node.mode < 2 ^ 32
  pub uid : node.uid < 2 ^ 32
  pub gid : node.gid < 2 ^ 32

-- a node's value is read as the node, whatever stands behind it
abbrev pub NodeAgain : Type 0
NodeAgain = (node : NodeRecord) (rest : List ℕ) → NodeFits node → node_in (node_value node ++ rest) ≡ node

-- a name's value is read as its child
abbrev pub ChildAgain : Type 0
ChildAgain = (id rest : List ℕ) → length id ≡ 8 → child_in (id ++ rest) ≡ id

-- a chunk's value is read as its bytes
abbrev pub ChunkAgain : Type 0
ChunkAgain = (bytes rest : List ℕ) → chunk_in (chunk_value bytes ++ rest) ≡ bytes
