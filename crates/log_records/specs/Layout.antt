-- How a record is read. Its key begins with a byte that says what it is about, and the 8 bytes of a node's id: 1 for a
-- node itself; 2 for a name of the directory with this id, which follows; 3 for a chunk of the bytes of a file or of a
-- link's text, whose place among the chunks follows in 4 bytes, the high one first. Behind the key stands the value.
use Rattle.std.specs.Prelude.{◌==◌, ◌+◌, ◌*◌, ℕ, List, ◌∷◌, ◌++◌, if◌then◌else◌, get_or, take, drop}
use Rattle.std.specs.Int.{to_be_bytes, from_be_bytes, w32}
use Rattle.nfs2_types.specs.declared.fattr.Kind.{Kind}
use Rattle.nfs2_types.specs.declared.fattr.Kind.TheVariants.{File, Dir, Link}
use Rattle.log_records.specs.declared.node.NodeRecord.{NodeRecord}

-- KEYS

-- the key of a node
abbrev pub node_key : List ℕ → List ℕ
node_key id = 1 ∷ id

-- the key of a name of a directory
abbrev pub name_key : List ℕ → List ℕ → List ℕ
name_key dir name = 2 ∷ (dir ++ name)

-- the key of a chunk of a node's bytes
abbrev pub chunk_key : List ℕ → ℕ → List ℕ
chunk_key id place = 3 ∷ (id ++ to_be_bytes w32 place)

-- VALUES

-- the number of the bytes of a record's key
abbrev pub key_size : List ℕ → ℕ
key_size block = 256 * get_or block 1 0 + get_or block 2 0

-- what stands behind the key
unfoldable pub value_of : List ℕ → List ℕ
value_of block = drop (3 + key_size block) block

-- 1 is a file, 2 a directory, and anything else a link
abbrev pub kind_of : ℕ → Kind
kind_of byte = if byte == 1 then File else (if byte == 2 then Dir else Link)

-- the number in 4 bytes of a value, from this one on
abbrev pub word_at : ℕ → List ℕ → ℕ
word_at at value = from_be_bytes w32 (take 4 (drop at value))

-- a node: its kind in a byte, then its mode, user and group in 4 bytes each
unfoldable pub node_in : List ℕ → NodeRecord
node_in value =
    record {
      kind = kind_of (get_or value 0 0);
      mode = word_at 1 value;
      uid = word_at 5 value;
      gid = word_at 9 value;
    }

-- a name: the id of the node to which it leads
abbrev pub child_in : List ℕ → List ℕ
child_in value = take 8 value

-- a chunk: the number of its bytes in 2 bytes, the high one first, and its bytes
unfoldable pub chunk_in : List ℕ → List ℕ
chunk_in value = take (256 * get_or value 0 0 + get_or value 1 0) (drop 2 value)
