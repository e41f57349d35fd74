-- What a new object is to the array and to the server (RFC 1094, 2.2.10, 2.2.14 and 2.2.15).
use Rattle.std.specs.Prelude.{ℕ, ◌≤◌, List, [], length, replicate, ⊤}
use Rattle.std.specs.FinMap.{empty}
use Rattle.server_trait.specs.Tree.{Content, BytesOf, TextOf, NamesOf}
use Rattle.abs_model.specs.declared.entry.Attr.{Attr}
use Rattle.abs_model.specs.declared.entry.Object.{Object}
use Rattle.abs_model.specs.declared.entry.Object.TheVariants.{File, Dir, Link}
use Rattle.node_changes.specs.declared.object.NewObject.{NewObject}

-- an empty directory, a file of zeros, or a link with its text
pub data New : Type 0 where
  new_dir : New
  new_file : (size : ℕ) → New
  new_link : (text : List ℕ) → New

-- the same, as the program has it
abbrev pub new_of : NewObject → New
new_of NewObject.Dir = new_dir
new_of (NewObject.File size) = new_file size
new_of (NewObject.Link text) = new_link text.now

-- its bytes, beside those of its name
abbrev pub byte_count : New → ℕ
byte_count new_dir = 0
byte_count (new_file size) = size
byte_count (new_link text) = length text

-- a file has at most a mebibyte, and a text 1,024 bytes
abbrev pub IsSmall : New → Type 0
IsSmall new_dir = ⊤
IsSmall (new_file size) = size ≤ 1048576
IsSmall (new_link text) = length text ≤ 1024

-- the object with these attributes
abbrev pub object_of : New → Attr → Object
object_of new_dir attr = Dir attr []
object_of (new_file size) attr = File attr (replicate size 0)
object_of (new_link text) attr = Link attr text

-- the content of its node
abbrev pub content_of : New → Content
content_of new_dir = NamesOf empty
content_of (new_file size) = BytesOf (replicate size 0)
content_of (new_link text) = TextOf text
