-- What files and links contain.
use Rattle.std.specs.Prelude.{◌≡◌, ◌≢◌, ℕ, ◌+◌, List, [], ◌++◌, length, take, drop, unwrap_or}
use Rattle.std.specs.FinMap.{get}
use Rattle.nfs2_types.specs.Bytes.{resized}
use Rattle.nfs2_types.specs.declared.fattr.Kind.{Kind}
use Rattle.nfs2_types.specs.declared.fattr.Kind.TheVariants.{File, Dir, Link}
use Rattle.server_trait.specs.Tree.{Content, BytesOf, TextOf, NamesOf, ByBytes, Names}

-- the bytes of files and the texts of links, each under its handle
abbrev pub Contents : Type 0
Contents = ByBytes (List ℕ)

-- the bytes or the text of a node, which may be left out where there are none
unfoldable pub bytes_under : Contents → List ℕ → List ℕ
bytes_under contents h = unwrap_or (get contents h) []

-- what a node of this kind contains
abbrev pub content_of : Kind → List ℕ → Names → Content
content_of File bytes names = BytesOf bytes
content_of Dir bytes names = NamesOf names
content_of Link bytes names = TextOf bytes

-- a new node got its bytes, unless it is a directory
pub record IsAdded (kind : Kind) (h bytes : List ℕ) (old new : Contents) : Type 0 where
  pub here : (names : Names) → content_of kind (bytes_under new h) names ≡ content_of kind bytes names
  pub others : (q : List ℕ) → q ≢ h → get new q ≡ get old q

-- bytes of another size, with a piece at an offset
abbrev pub rewritten : ℕ → ℕ → List ℕ → List ℕ → List ℕ
rewritten size offset piece bytes =
    take offset (resized size bytes) ++ piece ++ drop (offset + length piece) (resized size bytes)
