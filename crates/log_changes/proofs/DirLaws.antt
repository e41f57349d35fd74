-- A directory of the tree, and its names in the records.
use Rattle.std.proofs.Common.{◌≡◌, ◌≢◌, ◌∙◌, ℕ, List, length, Some, IsSome, refl, sym, ap, subst}
use Rattle.std.specs.FinMap.{get, empty}
use Rattle.nfs2_types.specs.declared.fattr.Kind.TheVariants.{Dir}
use Rattle.server_trait.specs.Tree.{Tree, Node, Names, Content, BytesOf, TextOf, NamesOf, node_at, names_at, names_in, target, kind_of, links}
use Rattle.server_trait.specs.declared.server.ServerLimits.{ServerLimits}
use Rattle.server_trait.proofs.SoftLaws.{some_of}
use Rattle.server_trait.proofs.TreeLaws.{and_then_some, names_at-node, target-node}
use Rattle.log_tree.specs.Held.{Records, handle_of, names_of, root_id, tree_of}
use Rattle.log_held.specs.Sound.{IsSound}
use Rattle.log_index.specs.Memory.{Memory, IsIndexed}
use Rattle.log_index.proofs.Ties.{at_node, dir_names}
use Rattle.log_changes.specs.Made.{IsBareDir, IsFreeDir}
use Rattle.log_changes.proofs.ButLaws.{names_are}

-- a directory's node
pub record IsDirNode (t : Tree) (h : List ℕ) (m : Names) : Type 0 where
  pub node : Node
  pub is_node : node_at t h ≡ Some node
  pub has : node.content ≡ NamesOf m

pub dir_of : (t : Tree) (h : List ℕ) (m : Names) → names_at t h ≡ Some m → IsDirNode t h m
dir_of t h m is =
    let n = and_then_some (λ (n : Node). names_in n.content) (node_at t h) m is in
    record { node = n.0; is_node = n.1; has = content n.0.content n.2 }
  where
    content : (c : Content) → names_in c ≡ Some m → c ≡ NamesOf m
    content (BytesOf x) e = absurd cc
    content (TextOf x) e = absurd cc
    content (NamesOf k) e = ap NamesOf (let same : k ≡ m = cc in same)

pub target_names : (live : Records) (dir : List ℕ) (m : Names) → length dir ≡ 8
    → names_at (tree_of live) (handle_of dir) ≡ Some m → (name : List ℕ)
    → target (tree_of live) (handle_of dir) name ≡ get (names_of live dir) name
target_names live dir m eight is name =
    let d = dir_of (tree_of live) (handle_of dir) m is in
    target-node (tree_of live) (handle_of dir) d.node m name d.is_node (ap names_in d.has)
    ∙ ap (λ k. get k name) (names_are live dir d.node eight d.is_node m d.has)

-- a name of a directory, and the node to which it leads
pub record IsTarget (t : Tree) (h name to : List ℕ) : Type 0 where
  pub dir : Node
  pub names : Names
  pub child : Node
  pub is_dir : node_at t h ≡ Some dir
  pub has : dir.content ≡ NamesOf names
  pub leads : get names name ≡ Some to
  pub is_child : node_at t to ≡ Some child

pub target_of : (limits : ServerLimits) (live : Records) (h name to : List ℕ) → IsSound limits live
    → target (tree_of live) h name ≡ Some to → IsTarget (tree_of live) h name to
target_of limits live h name to s is =
    let t = tree_of live in
    let m = and_then_some (λ (m : Names). get m name) (names_at t h) to is in
    let d = dir_of t h m.0 m.1 in
    let c = some_of (node_at t to) (s.tied.leads h d.node m.0 name to d.is_node (ap names_in d.has) m.2) in
    record {
      dir = d.node;
      names = m.0;
      child = c.0;
      is_dir = d.is_node;
      has = d.has;
      leads = m.2;
      is_child = c.1;
    }

-- of a node that is there something is kept
pub kept_there : (t : Tree) (x : Memory) (id : List ℕ) (n : Node) → IsIndexed t x → length id ≡ 8
    → node_at t (handle_of id) ≡ Some n → IsSome (get x.nodes id)
kept_there t x id n h eight is =
    let both = at_node t x id n h eight is in
    subst (λ o. IsSome o) (sym both.is_info) refl

-- what is said of a directory by its handle, by its node
pub free_dir : (t : Tree) (id : List ℕ) (n : Node) → node_at t (handle_of id) ≡ Some n → IsFreeDir t id
    → kind_of n.content ≡ Dir → (links t (handle_of id) ≡ 0) × (id ≢ root_id)
free_dir t id n is free kind =
    let m = dir_names n.content kind in
    free (subst (λ o. IsSome o) (sym (names_at-node t (handle_of id) n is ∙ ap names_in m.1)) refl)

pub bare_dir : (t : Tree) (h : List ℕ) (n : Node) → node_at t h ≡ Some n → IsBareDir t h
    → (m : Names) → n.content ≡ NamesOf m → m ≡ empty
bare_dir t h n is none m has = none m (names_at-node t h n is ∙ ap names_in has)
