-- Handles of one epoch are none of another.
use Rattle.std.proofs.Common.{◌≡◌, ℕ, ◌+◌, ◌^◌, ◌<◌, arith, Bool, true, false, Ok, Err, List, take, drop, Option, Some, None, IsSome, refl, sym, ap, ◌∙◌, is_some}
use Rattle.std.specs.Prelude.{Result, OnOk}
use Rattle.std.specs.Int.{w64, from_be_bytes}
use Rattle.std.proofs.lemmas.Nat.{from_be_bytes-to_be_bytes_8}
use Rattle.server_trait.specs.Tree.{Tree, Node, node_at}
use Rattle.server_trait.specs.declared.server.SrvErr.{SrvErr}
use Rattle.server_trait.proofs.SoftLaws.{some_of}
use Rattle.server_trait.proofs.TreeLaws.{some_same}
use Rattle.inode_dirs.specs.Files.{File, table_of}
use Rattle.inode_dirs.proofs.TableLaws.{node-from}
use Rattle.inode_tree.specs.Handles.{handle_bytes}
use Rattle.inode_tree.specs.Kept.{tables_of}
use Rattle.inode_tree.specs.Planned.{epoch_of}
use Rattle.inode_tree.specs.Sound.{IsTied, the_tree}
use Rattle.inode_tree.specs.Whole.{tree_in, IsWhole}
use Rattle.inode_tree.specs.declared.tables.InodeTables.{InodeTables}
use Rattle.inode_tree.specs.declared.tree.InodeTree.{InodeTree}
use Rattle.inode_tree.proofs.TiedLaws.{apart}
use Rattle.inode_server.specs.State.{NoneStays, server_of}

-- the epoch of a handle
abbrev epoch_in : List ℕ → ℕ
epoch_in h = from_be_bytes w64 (take 8 (drop 4 h))

epoch-handle : (i epoch salt : ℕ) → epoch < 2 ^ 64 → epoch_in (handle_bytes i epoch salt) ≡ epoch
unfolding handle_bytes
epoch-handle i epoch salt fits = from_be_bytes-to_be_bytes_8 epoch fits

-- a node's handle is of the epoch of its tables
node-epoch : (n : ℕ) (files : ℕ → Option File) (s : InodeTables) → IsTied n files (tables_of s) →
    epoch_of s < 2 ^ 64 → (h : List ℕ) → IsSome (node_at (the_tree n files (tables_of s)) h) → epoch_in h ≡ epoch_of s
node-epoch n files s tied fits h some =
    let x = some_of (node_at (the_tree n files (tables_of s)) h) some in
    let f = node-from (tables_of s).handle n (table_of files) (apart n files (tables_of s) tied) h x.0 x.1 in
    ap epoch_in (sym f.3) ∙ epoch-handle f.0 (epoch_of s) _ fits

none_there : (o : Option Node) → (IsSome o → ⊥) → o ≡ None
none_there None lacks = refl
none_there (Some x) lacks = absurd (lacks refl)

pub none-stays : {M : Type 0} (content : M → ℕ → List ℕ) (size : M → ℕ) (s n : InodeTree M) → IsWhole content size s →
    IsWhole content size n → epoch_of n.tables ≡ epoch_of s.tables + 1 → epoch_of n.tables < 2 ^ 64 →
    NoneStays (Some (tree_in content s)) (Some (tree_in content n))
none-stays content size s n whole whole' next few t u is_t is_u h some =
    let was : IsSome (node_at (tree_in content s) h) =
    ap (λ (t : Tree). is_some (node_at t h)) (some_same refl is_t) ∙ some in
    let old = node-epoch s.store.inodes _ s.tables whole.tied (omega (arith, next, few)) h was in
    ap (λ (t : Tree). node_at t h) (sym (some_same refl is_u)) ∙ none_there (node_at (tree_in content n) h) (λ there.
    let new = node-epoch n.store.inodes _ n.tables whole'.tied few h there in
    omega (arith, old, new, next))

-- what a server shows, if it has a tree
pub shown-stale : {M : Type 0} (content : M → ℕ → List ℕ) (faults : M → ℕ) (up up' : Bool) (s n : InodeTree M)
    (r : Result Unit SrvErr) → OnOk r (NoneStays (Some (tree_in content s)) (Some (tree_in content n))) →
    OnOk r (NoneStays (server_of content faults up s).tree (server_of content faults up' n).tree)
shown-stale content faults up up' s n (Err e) none = tt
shown-stale content faults up up' s n (Ok x) none = by up up'
  where
    by : (up up' : Bool) → NoneStays (server_of content faults up s).tree (server_of content faults up' n).tree
    by true true = none
    by true false = λ t u is_t bad h some. absurd (let no : None ≡ Some u = bad in cc)
    by false up' = λ t u bad is_u h some. absurd (let no : None ≡ Some t = bad in cc)
