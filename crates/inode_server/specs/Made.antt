-- A node that was just made, to which no name leads yet.
use Rattle.std.specs.Prelude.{◌≡◌, ◌≢◌, ◌+◌, ℕ, List, [], None, Some, length}
use Rattle.std.specs.FinMap.{empty}
use Rattle.nfs2_types.specs.declared.fattr.Kind.{Kind}
use Rattle.nfs2_types.specs.declared.fattr.Kind.TheVariants.{File, Dir, Link}
use Rattle.server_trait.specs.Tree.{Content, BytesOf, TextOf, NamesOf, node_at, with_node, new_node}
use Rattle.inode_tree.specs.Kept.{tables_of}
use Rattle.inode_tree.specs.Whole.{tree_in}
use Rattle.inode_tree.specs.declared.tree.InodeTree.{InodeTree}

-- what a new node of a kind contains; only a link has a text
abbrev pub content_with : Kind → List ℕ → Content
content_with File text = BytesOf []
content_with Dir text = NamesOf empty
content_with Link text = TextOf text

-- only a link has a text
abbrev pub HasText : Kind → List ℕ → Type 0
HasText kind text = kind ≢ Link → text ≡ []

-- a free inode has become a node of this kind with this text, under a handle that no node had
pub record Makes {M : Type 0} (content : M → ℕ → List ℕ) (old new : InodeTree M) (i : ℕ) (kind : Kind) (text : List ℕ)
    : Type 0 where
  pub tree : tree_in content new ≡ with_node (tree_in content old) ((tables_of new.tables).handle i)
      (new_node i (content_with kind text))
  pub new_handle : node_at (tree_in content old) ((tables_of new.tables).handle i) ≡ None
  pub was_free : (tables_of old.tables).kind i ≡ None
  pub kind_is : (tables_of new.tables).kind i ≡ Some kind
  pub kinds : (k : ℕ) → k ≢ i → (tables_of new.tables).kind k ≡ (tables_of old.tables).kind k
  pub handles : (k : ℕ) → k ≢ i → (tables_of new.tables).handle k ≡ (tables_of old.tables).handle k
  pub places : (k : ℕ) → k ≢ i → (tables_of new.tables).place k ≡ (tables_of old.tables).place k
  pub unlinked : (tables_of new.tables).counts.links i ≡ 0
  pub used : (tables_of new.tables).counts.used ≡ (tables_of old.tables).counts.used + length text
