-- A tree on a log whose records are sound, on a medium that has room for them, and whose memory is that of the tree.
use Rattle.std.specs.Prelude.{◌≡◌, ◌≢◌, ◌≤◌, max, ℕ, List, IsSome, Some, Result}
use Rattle.std.specs.FinMap.{get, len}
use Rattle.outside.specs.Causes.{WriteHasCause}
use Rattle.outside.specs.declared.medium.MediumErr.{MediumErr}
use Rattle.nfs2_types.specs.declared.fattr.Kind.TheVariants.{Dir}
use Rattle.server_trait.specs.Tree.{Tree, Node, Names, names_in, node_at, links, used}
use Rattle.server_trait.specs.declared.server.ServerLimits.{ServerLimits}
use Rattle.log_tree.specs.Held.{Records, root_id, most_names, tree_of}
use Rattle.log_store.specs.Store.{IsStore, live_in, medium_of, tree_in}
use Rattle.log_held.specs.Sound.{kind_at, ArePlaced, IsSound}
use Rattle.log_held.specs.Room.{IsLarge}
use Rattle.log_index.specs.Memory.{IsIndexed, memory_of}
use Rattle.log_changes.specs.declared.tree.LogTree.{LogTree}

-- the medium that it stands on
abbrev pub log_medium : {M : Type 0} → LogTree M → M
log_medium t = medium_of t.store

-- live records make a tree within the limits, but for the number of names that lead to one directory
pub record IsSoundBut (free : List ℕ) (limits : ServerLimits) (live : Records) : Type 0 where
  pub placed : ArePlaced live
  pub root : kind_at live root_id ≡ Some Dir
  pub one : (h : List ℕ) (n : Node) (m : Names) → h ≢ free → node_at (tree_of live) h ≡ Some n →
      names_in n.content ≡ Some m → links (tree_of live) h ≡ most_names h
  pub leads : (h : List ℕ) (n : Node) (m : Names) (name x : List ℕ) → node_at (tree_of live) h ≡ Some n →
      names_in n.content ≡ Some m → get m name ≡ Some x → IsSome (node_at (tree_of live) x)
  pub few_nodes : len (tree_of live).nodes ≤ max limits.nodes 1
  pub few_bytes : used (tree_of live) ≤ limits.bytes

module _ {M : Type 0} (content : M → ℕ → List ℕ) (size : M → ℕ) where
  -- the live records, and the tree that they make
  abbrev pub log_live : LogTree M → Records
  log_live t = live_in content size t.store

  abbrev pub log_tree : LogTree M → Tree
  log_tree t = tree_in content size t.store

  pub record IsKept (t : LogTree M) : Type 0 where
    pub store : IsStore content size t.store
    pub sound : IsSound t.limits (log_live t)
    pub indexed : IsIndexed (log_tree t) (memory_of t.index)
    pub large : IsLarge t.limits (size (log_medium t))

  -- the same, but for the number of names that lead to one directory
  pub record IsKeptBut (free : List ℕ) (t : LogTree M) : Type 0 where
    pub store : IsStore content size t.store
    pub sound : IsSoundBut free t.limits (log_live t)
    pub indexed : IsIndexed (log_tree t) (memory_of t.index)
    pub large : IsLarge t.limits (size (log_medium t))

-- what all changes share: limits and size stay, and a failure comes only where the medium's count rose
pub record Changes {M T : Type 0} (size faults : M → ℕ) (old new : LogTree M) (result : Result T MediumErr)
    : Type 0 where
  pub limits : new.limits ≡ old.limits
  pub size_is : size (log_medium new) ≡ size (log_medium old)
  pub cause : WriteHasCause (faults (log_medium old)) (faults (log_medium new)) result
