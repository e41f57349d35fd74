-- An object is made in the staging directory, under its index in decimal.
use Rattle.std.specs.Prelude.{◌≡◌, ◌<◌, ◌≤◌, ◌+◌, ℕ, List, [], ◌∷◌, true, false, if◌then◌else◌, length, set, IsSomeAnd, None}
use Rattle.std.specs.Fmt.{decimal}
use Rattle.std.specs.FinMap.{empty, len}
use Rattle.server_trait.specs.Tree.{Tree, Server, Content, BytesOf, TextOf, NamesOf, used}
use Rattle.server_trait.specs.declared.server.ServerLimits.{ServerLimits}
use Rattle.server_trait.specs.declared.bench.ConfTable.{ConfTable}
use Rattle.abs_model.specs.declared.entry.NameRow.{NameRow}
use Rattle.abs_model.specs.declared.entry.Object.{Object}
use Rattle.abs_model.specs.declared.entry.Object.TheVariants.{Null, File, Dir, Link}
use Rattle.abs_model.specs.declared.entry.Entry.{Entry}
use Rattle.abs_model.specs.Objects.{is_null, bytes_of, row_of}
use Rattle.abs_model.specs.Array.{entry_at}
use Rattle.conf_map.specs.Fresh.{HoldsUpTo}
use Rattle.staging.specs.Forms.{begun}
use Rattle.staging.specs.Staged.{Staged}

-- the content with which a node is made
abbrev pub begun_content : Object → Content
begun_content Null = BytesOf []
begun_content (File attr bytes) = BytesOf []
begun_content (Dir attr names) = NamesOf empty
begun_content (Link attr text) = TextOf text

-- its bytes
abbrev pub begun_bytes : Entry → ℕ
begun_bytes e = length (bytes_of (begun e))

-- the tree has room for one node more with so many bytes, and its name
abbrev pub HasRoomFor : Server → ℕ → Type 0
HasRoomFor s bytes = IsSomeAnd s.tree (λ t. HoldsUpTo s.limits (len t.nodes + 1) (used t + (512 + bytes)))

-- the name of an object in staging
abbrev pub row_in_staging : ℕ → Entry → NameRow
row_in_staging i e = record { name = decimal i; index = i; generation = e.generation }

-- An entry is null, staging lacks its name, and there is room for what shall stand there.
pub record CanBegin (t : Tree) (limits : ServerLimits) (area : List ℕ) (table : ConfTable) (A : List Entry)
    (S : List NameRow) (i : ℕ) (e : Entry) : Type 0 where
  pub staged : Staged t area table A S
  pub within : i < length A
  pub null : is_null (entry_at A i) ≡ true
  pub free : row_of (decimal i) S ≡ None
  pub text : begun_bytes e ≤ 1024
  pub room : is_null e ≡ false → HoldsUpTo limits (len t.nodes + 1) (used t + (512 + begun_bytes e))

-- the array, and staging's names, with the object
abbrev pub begun_at : List Entry → ℕ → Entry → List Entry
begun_at A i e = set A i (begun e)

abbrev pub staged_with : List NameRow → ℕ → Entry → List NameRow
staged_with S i e = if is_null e then S else row_in_staging i e ∷ S
