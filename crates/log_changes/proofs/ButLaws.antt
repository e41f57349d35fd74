-- Records that are sound but for the names that lead to one directory, and what is found among them.
use Rattle.std.proofs.Common.{inl, inr, ◌≡◌, ◌≢◌, ◌∙◌, ℕ, List, length, take, Option, Some, None, refl, sym, ap, subst, arith}
use Rattle.std.specs.Prelude.{option_map, replicate}
use Rattle.std.specs.Ordering.{nat_cmp}
use Rattle.std.specs.Cmp.Lexicographic.{slice_cmp}
use Rattle.std.specs.FinMap.{get, empty, get-empty}
use Rattle.std.specs.Int.{from_be_bytes, w64}
use Rattle.std.proofs.lemmas.List.{take_at}
use Rattle.nfs2_types.specs.declared.fattr.Kind.{Kind}
use Rattle.nfs2_types.specs.declared.fattr.Kind.TheVariants.{File, Dir, Link}
use Rattle.server_trait.specs.Tree.{Node, Names, BytesOf, TextOf, NamesOf, IsNamed, node_at, names_at, kind_of, links}
use Rattle.server_trait.specs.declared.server.ServerLimits.{ServerLimits}
use Rattle.server_trait.proofs.TreeLaws.{bytes_or_not, names_at-node, same_answers, some_none, target_found}
use Rattle.server_trait.proofs.SoftLaws.{some_of}
use Rattle.log_segments.specs.Newest.{find}
use Rattle.log_records.specs.Layout.{node_key, name_key, chunk_key, value_of, node_in, child_in}
use Rattle.log_tree.specs.Held.{Records, handle_of, root_id, most_names, bytes_of, names_of, content_of, node_of, tree_of}
use Rattle.log_tree.proofs.TreeLaws.{node_at-id}
use Rattle.log_store.proofs.StoreLaws.{name_at}
use Rattle.log_files.specs.Chunked.{IsChunked}
use Rattle.log_files.proofs.ChunkLaws.{below_or_not}
use Rattle.log_held.specs.Sound.{kind_at, IsLeaf, ArePlaced, IsSound}
use Rattle.log_held.proofs.Nodes.{IsFoundNode, node_found, kind_found}
use Rattle.log_changes.specs.Kept.{IsSoundBut}

-- ALL OR ALL BUT ONE

pub but_one : (free : List ℕ) (limits : ServerLimits) (live : Records) → IsSound limits live
    → IsSoundBut free limits live
but_one free limits live s = record {
  placed = s.placed;
  root = s.tied.root;
  one = λ h n m _ is has. s.tied.one h n m is has;
  leads = s.tied.leads;
  few_nodes = s.few_nodes;
  few_bytes = s.few_bytes;
}

pub all_sound : (free : List ℕ) (limits : ServerLimits) (live : Records) → IsSoundBut free limits live
    → ((m : Names) → names_at (tree_of live) free ≡ Some m → links (tree_of live) free ≡ most_names free)
    → IsSound limits live
all_sound free limits live s here = record {
  placed = s.placed;
  tied = record {
    root = s.root;
    one = λ h n m is has. elim (bytes_or_not h free) [
      | inl e ↦
          let at : names_at (tree_of live) free ≡ Some m =
          names_at-node (tree_of live) free n (ap (node_at (tree_of live)) (sym e) ∙ is) ∙ has in
          subst (λ q. links (tree_of live) q ≡ most_names q) (sym e) (here m at)
      | inr ne ↦ s.one h n m ne is has
    ];
    leads = s.leads;
  };
  few_nodes = s.few_nodes;
  few_bytes = s.few_bytes;
}

-- a node to which a name leads is there
pub named_there : (free : List ℕ) (limits : ServerLimits) (live : Records) (h : List ℕ) → IsSoundBut free limits live
    → node_at (tree_of live) h ≡ None → ¬ (IsNamed (tree_of live) h)
named_there free limits live h s none named =
    let f = target_found (tree_of live) named.0 named.1 h named.2 in
    let there = some_of (node_at (tree_of live) h)
    (s.leads named.0 f.node f.names named.1 h f.is_node f.is_dir f.leads) in
    some_none there.1 none

-- WHAT IS FOUND

kind_of-content : (live : Records) (id : List ℕ) (kind : Kind) → kind_of (content_of live id kind) ≡ kind
kind_of-content live id File = refl
kind_of-content live id Dir = refl
kind_of-content live id Link = refl

-- the node of an id
module _ (live : Records) (id : List ℕ) (node : Node) (eight : length id ≡ 8)
    (is : node_at (tree_of live) (handle_of id) ≡ Some node) where
  pub found : IsFoundNode live (handle_of id) node
  found = node_found live (handle_of id) node is

  id_is : take 8 (handle_of id) ≡ id
  id_is = take_at id (replicate 24 0) 8 eight

  abbrev pub kind : Kind
  kind = (node_in (value_of found.block)).kind

  pub content_is : node.content ≡ content_of live id kind
  content_is = ap (λ (m : Node). m.content) (sym found.is) ∙ ap (λ i. content_of live i kind) (found.id_is ∙ id_is)

  pub kind_is : kind_at live id ≡ Some (kind_of node.content)
  kind_is =
      ap (kind_at live) (sym id_is) ∙ (kind_found live (handle_of id) node found
      ∙ ap Some (sym (ap kind_of content_is ∙ kind_of-content live id kind)))

  pub number_is : node.number ≡ from_be_bytes w64 id
  number_is = ap (λ (m : Node). m.number) (sym found.is) ∙ ap (from_be_bytes w64) (found.id_is ∙ id_is)

  names_of-kind : (k : Kind) (m : Names) → content_of live id k ≡ NamesOf m → m ≡ names_of live id
  names_of-kind File m e = absurd cc
  names_of-kind Dir m e = cc
  names_of-kind Link m e = absurd cc

  pub names_are : (m : Names) → node.content ≡ NamesOf m → m ≡ names_of live id
  names_are m has = names_of-kind kind m (sym content_is ∙ has)

  bytes_of-kind : (k : Kind) (b : List ℕ) → content_of live id k ≡ TextOf b → b ≡ bytes_of live id
  bytes_of-kind File b e = absurd cc
  bytes_of-kind Dir b e = absurd cc
  bytes_of-kind Link b e = cc

  pub text_is : (b : List ℕ) → node.content ≡ TextOf b → b ≡ bytes_of live id
  text_is b has = bytes_of-kind kind b (sym content_is ∙ has)

  file_of-kind : (k : Kind) (b : List ℕ) → content_of live id k ≡ BytesOf b → b ≡ bytes_of live id
  file_of-kind File b e = cc
  file_of-kind Dir b e = absurd cc
  file_of-kind Link b e = absurd cc

  pub file_is : (b : List ℕ) → node.content ≡ BytesOf b → b ≡ bytes_of live id
  file_is b has = file_of-kind kind b (sym content_is ∙ has)

-- where the tree has no node there is no record of it
pub no_record : (live : Records) (id : List ℕ) → length id ≡ 8 → node_at (tree_of live) (handle_of id) ≡ None
    → find (node_key id) live ≡ None
no_record live id eight none =
    elim (find (node_key id) live) as (λ o. option_map (node_of live) o ≡ None → o ≡ None) [
      | None ↦ (λ e. refl)
      | Some r ↦ (λ e. absurd cc)
    ] (sym (node_at-id live id eight) ∙ none)

pub no_kind : (live : Records) (id : List ℕ) → find (node_key id) live ≡ None → kind_at live id ≡ None
no_kind live id none = ap (option_map (λ r. (node_in (value_of r)).kind)) none

none_or_some : (o : Option (List ℕ)) → ((r : List ℕ) → o ≡ Some r → ⊥) → o ≡ None
none_or_some None h = refl
none_or_some (Some r) h = absurd (h r refl)

-- what is no file and no link has no chunks
pub chunked_not_leaf : (live : Records) (id : List ℕ) → ArePlaced live → length id ≡ 8 → (IsLeaf (kind_at live id) → ⊥)
    → IsChunked live id 0
chunked_not_leaf live id placed eight not_leaf =
    let c = placed.chunks id eight in
    record {
      few = omega arith;
      there = λ p below. absurd (omega arith);
      absent = λ p _ small. elim (below_or_not p 17477) [
        | inl l ↦ none_or_some (find (chunk_key id p) live) (λ r is. not_leaf (placed.of_leaf id p r eight l is))
        | inr g ↦ c.absent p (let few = c.few in omega arith) small
      ];
    }

-- what is no directory has no names
pub no_names : (live : Records) (id : List ℕ) → ArePlaced live → length id ≡ 8 → (kind_at live id ≡ Some Dir → ⊥)
    → (name : List ℕ) → find (name_key id name) live ≡ None
no_names live id placed eight not_dir name =
    none_or_some (find (name_key id name) live) (λ r is. not_dir (placed.of_dir id name r eight is))

-- without records of names a directory is empty
pub empty_names : (live : Records) (id : List ℕ) → length id ≡ 8
    → ((name : List ℕ) → find (name_key id name) live ≡ None) → names_of live id ≡ empty
empty_names live id eight none = same_answers (names_of live id) empty (λ name.
    name_at live id name eight ∙ (ap (option_map (λ r. handle_of (child_in (value_of r)))) (none name)
    ∙ sym (get-empty (slice_cmp nat_cmp) name)))

-- and the other way
pub names_none : (live : Records) (id name : List ℕ) → length id ≡ 8 → names_of live id ≡ empty
    → find (name_key id name) live ≡ None
names_none live id name eight none =
    elim (find (name_key id name) live) as (λ o. option_map (λ r. handle_of (child_in (value_of r))) o ≡ None → o ≡ None) [
      | None ↦ (λ e. refl)
      | Some r ↦ (λ e. absurd cc)
    ] (sym (name_at live id name eight) ∙ (ap (λ m. get m name) none ∙ get-empty (slice_cmp nat_cmp) name))

-- a node that is not there has no chunks
pub fresh_chunks : (live : Records) (id : List ℕ) → ArePlaced live → length id ≡ 8
    → node_at (tree_of live) (handle_of id) ≡ None → IsChunked live id 0
fresh_chunks live id placed eight absent = chunked_not_leaf live id placed eight (λ leaf.
    subst IsLeaf (no_kind live id (no_record live id eight absent)) leaf)

-- the root is there
pub not_root : {limits : ServerLimits} (live : Records) (id : List ℕ) → IsSound limits live → length id ≡ 8
    → node_at (tree_of live) (handle_of id) ≡ None → id ≢ root_id
not_root live id s eight absent e = absurd (let bad : None ≡ Some Dir =
    sym (no_kind live id (no_record live id eight absent)) ∙ (ap (kind_at live) e ∙ s.tied.root) in cc)
