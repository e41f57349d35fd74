-- How a record is written.
use Rattle.std.specs.Prelude.{◌+◌, ◌-◌, ◌/◌, ◌%◌, ℕ, List, ◌∷◌, ◌++◌, length, replicate}
use Rattle.std.specs.Int.{to_be_bytes, w32}
use Rattle.nfs2_types.specs.declared.fattr.Kind.{Kind}
use Rattle.nfs2_types.specs.declared.fattr.Kind.TheVariants.{File, Dir, Link}
use Rattle.log_records.specs.declared.node.NodeRecord.{NodeRecord}

-- a block with this mark, key and value, and zeros behind them
unfoldable pub record_of : ℕ → List ℕ → List ℕ → List ℕ
record_of mark key value =
    mark ∷ length key / 256 ∷ length key % 256 ∷ (key ++ (value ++ replicate (509 - (length key + length value)) 0))

abbrev pub byte_of : Kind → ℕ
byte_of File = 1
byte_of Dir = 2
byte_of Link = 3

-- the value of a node
abbrev pub node_value : NodeRecord → List ℕ
node_value n = byte_of n.kind ∷ (to_be_bytes w32 n.mode ++ (to_be_bytes w32 n.uid ++ to_be_bytes w32 n.gid))

-- the value of a chunk
abbrev pub chunk_value : List ℕ → List ℕ
chunk_value bytes = length bytes / 256 ∷ length bytes % 256 ∷ bytes
