-- What a store of nodes, names and chunks says of its log.
use Rattle.std.specs.Prelude.{◌≡◌, ◌≢◌, ◌+◌, ◌-◌, ◌++◌, ◌<◌, ◌≤◌, ℕ, List, length, Option, Some, None, IsSome, option_map, Result, OnOk, OnErr}
use Rattle.std.specs.Int.{from_be_bytes, w64}
use Rattle.nfs2_types.specs.declared.fattr.Kind.TheVariants.{File}
use Rattle.outside.specs.Causes.{WriteHasCause}
use Rattle.outside.specs.declared.medium.MediumErr.{MediumErr}
use Rattle.server_trait.specs.Tree.{Node, Tree, Content, node_at, with_node, edited, with_bytes}
use Rattle.log_segments.specs.Failures.{MayPut}
use Rattle.log_segments.specs.Newest.{find}
use Rattle.log_segments.specs.Segments.{IsLog, live_of, half_of, records_of, medium_of as log_medium}
use Rattle.log_records.specs.Layout.{node_key, chunk_key, value_of, node_in, chunk_in}
use Rattle.log_records.specs.declared.node.NodeRecord.{NodeRecord}
use Rattle.log_tree.specs.Held.{Records, handle_of, bytes_from, bytes_of, content_of, tree_of}
use Rattle.log_store.specs.declared.store.LogStore.{LogStore}

module _ {M : Type 0} (content : M → ℕ → List ℕ) (size : M → ℕ) where
  -- what it keeps in memory is what its medium holds
  abbrev pub IsStore : LogStore M → Type 0
  IsStore store = IsLog content size store.log

  -- the records of the log, the oldest first, and the live ones among them
  abbrev pub records_in : LogStore M → Records
  records_in store = records_of content size store.log

  abbrev pub live_in : LogStore M → Records
  live_in store = live_of content size store.log

  -- the tree that they make
  abbrev pub tree_in : LogStore M → Tree
  tree_in store = tree_of (live_in store)

  -- one record more has room beside the live ones
  abbrev pub HasRoom : LogStore M → Type 0
  HasRoom store = length (live_in store) + 1 < half_of size store.log

-- the medium that it stands on
abbrev pub medium_of : {M : Type 0} → LogStore M → M
medium_of store = log_medium store.log

-- what each call that writes shares: after an error the live records are as they were or have one more
pub record Writes {M T : Type 0} (content : M → ℕ → List ℕ) (size faults : M → ℕ) (old new : LogStore M)
    (result : Result T MediumErr) : Type 0 where
  pub store : OnOk result (IsStore content size new)
  pub torn : OnErr result (MayPut (live_in content size old) (live_in content size new))
  pub size_is : size (medium_of new) ≡ size (medium_of old)
  pub cause : WriteHasCause (faults (medium_of old)) (faults (medium_of new)) result

-- what calls of more than one record share
pub record Works {M T : Type 0} (content : M → ℕ → List ℕ) (size faults : M → ℕ) (old new : LogStore M)
    (result : Result T MediumErr) : Type 0 where
  pub store : OnOk result (IsStore content size new)
  pub size_is : size (medium_of new) ≡ size (medium_of old)
  pub cause : WriteHasCause (faults (medium_of old)) (faults (medium_of new)) result

-- what each call that reads shares
pub record Reads {M T : Type 0} (content : M → ℕ → List ℕ) (size faults : M → ℕ) (old new : LogStore M)
    (result : Result T MediumErr) : Type 0 where
  pub store : IsStore content size new
  pub content_is : content (medium_of new) ≡ content (medium_of old)
  pub size_is : size (medium_of new) ≡ size (medium_of old)
  pub cause : WriteHasCause (faults (medium_of old)) (faults (medium_of new)) result

-- a node of this id as its record says, with what it contains
abbrev pub node_with : ℕ → NodeRecord → Content → Node
node_with number n content = record { number = number; mode = n.mode; uid = n.uid; gid = n.gid; content = content }

-- all keys but one are found as before
abbrev pub KeepsOthers : Records → List ℕ → Records → Type 0
KeepsOthers live key new = (k : List ℕ) → k ≢ key → find k new ≡ find k live

-- what is read of the record that now stands under a key; there is one record more only where the key had none
pub record Puts {X : Type 0} (read : List ℕ → X) (live : Records) (key : List ℕ) (value : X) (new : Records)
    : Type 0 where
  pub here : option_map (λ r. read (value_of r)) (find key new) ≡ Some value
  pub more : length new ≤ length live + 1
  pub over : IsSome (find key live) → length new ≤ length live

-- no record stands under a key; there is one record less where the key had one
pub record Drops (live : Records) (key : List ℕ) (new : Records) : Type 0 where
  pub none : find key new ≡ None
  pub most : length new ≤ length live
  pub less : IsSome (find key live) → length new + 1 ≤ length live

-- all chunks before a place are there
abbrev pub HasBefore : Records → List ℕ → ℕ → Type 0
HasBefore live id place = (p : ℕ) → p < place → IsSome (find (chunk_key id p) live)

-- a file has other bytes, and no other node changes
abbrev pub HasOtherBytes : Records → List ℕ → Records → Type 0
HasOtherBytes live id new = (node : List ℕ) → find (node_key id) live ≡ Some node →
    (node_in (value_of node)).kind ≡ File →
    tree_of new ≡ edited (tree_of live) (handle_of id) (with_bytes (λ _. bytes_of new id))

-- bytes without a node are none of the tree
abbrev pub KeepsTree : Records → List ℕ → Records → Type 0
KeepsTree live id new = find (node_key id) live ≡ None → tree_of new ≡ tree_of live

-- bytes stand at a place among the chunks of a node, in the place of the chunk that was there
pub record PutsChunk (live : Records) (id : List ℕ) (place : ℕ) (bytes : List ℕ) (new : Records) : Type 0 where
  pub here : option_map (λ r. chunk_in (value_of r)) (find (chunk_key id place) new) ≡ Some bytes
  pub bytes_are : bytes_of new id
      ≡ bytes_from place live id 0 ++ (bytes ++ bytes_from (17476 - place) live id (place + 1))
  pub file : HasOtherBytes live id new
  pub alone : KeepsTree live id new

-- the bytes of a node end before a place
pub record DropsChunk (live : Records) (id : List ℕ) (place : ℕ) (new : Records) : Type 0 where
  pub here : find (chunk_key id place) new ≡ None
  pub bytes_are : bytes_of new id ≡ bytes_from place live id 0
  pub file : HasOtherBytes live id new
  pub alone : KeepsTree live id new

-- what stands under a node's handle is the node as its record says, if it has one
abbrev pub NodeIs : Records → List ℕ → Option NodeRecord → Type 0
NodeIs live id found = node_at (tree_of live) (handle_of id)
    ≡ option_map (λ n. node_with (from_be_bytes w64 id) n (content_of live id n.kind)) found

-- the node is put as its record says, with what it contained
abbrev pub PutsNode : Records → List ℕ → NodeRecord → Records → Type 0
PutsNode live id n new = tree_of new
    ≡ with_node (tree_of live) (handle_of id) (node_with (from_be_bytes w64 id) n (content_of live id n.kind))
