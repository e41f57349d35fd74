-- What a tree on a log is to a caller, and what a call leaves of it.
use Rattle.std.specs.Prelude.{◌≡◌, ℕ, Bool, true, List, Option, None, Result, Ok, Err, if◌then◌else◌, option_map}
use Rattle.server_trait.specs.Tree.{Server, Tree, target}
use Rattle.server_trait.specs.Step.{Counts, IsBroken}
use Rattle.server_trait.specs.declared.server.SrvErr.{SrvErr}
use Rattle.log_tree.specs.Held.{handle_of, held}
use Rattle.log_changes.specs.Kept.{IsKept, log_medium, log_tree}
use Rattle.log_changes.specs.declared.tree.LogTree.{LogTree}
use Rattle.log_calls.specs.Answers.{stands}

module _ {M : Type 0} (content : M → ℕ → List ℕ) (size faults : M → ℕ) where
  -- the server of a tree on a log: if it is up, its tree is the one that the medium holds
  abbrev pub server_of : Bool → LogTree M → Server
  server_of up t = record {
    tree = if up then held (content (log_medium t)) (size (log_medium t)) t.limits else None;
    limits = t.limits;
    faults = faults (log_medium t);
  }

  -- limits and size stay, and where the server is still up its memory is that of the tree
  pub record Stays (up : Bool) (old new : LogTree M) : Type 0 where
    pub limits : new.limits ≡ old.limits
    pub size_is : size (log_medium new) ≡ size (log_medium old)
    pub kept : up ≡ true → IsKept content size new

  -- a call on a tree of a log answers as a server's call may, and leaves the tree for the next
  pub record Does {T : Type 0} (call : Server → Result T SrvErr → Server → Type 0) (old : LogTree M)
      (r : Result T SrvErr) (new : LogTree M) : Type 0 where
    pub answers : call (server_of true old) r (server_of (stands r) new)
    pub stays : Stays (stands r) old new

  -- a part of a call went well and left this tree
  pub record IsOn (old : LogTree M) (t : Tree) (new : LogTree M) : Type 0 where
    pub kept : IsKept content size new
    pub tree_is : log_tree content size new ≡ t
    pub limits : new.limits ≡ old.limits
    pub size_is : size (log_medium new) ≡ size (log_medium old)
    pub faults_are : faults (log_medium new) ≡ faults (log_medium old)

  -- a part of a call failed
  pub record IsOff (old : LogTree M) (e : SrvErr) (new : LogTree M) : Type 0 where
    pub broken : IsBroken e
    pub limits : new.limits ≡ old.limits
    pub size_is : size (log_medium new) ≡ size (log_medium old)
    pub counts : Counts {T = Unit {0}} (faults (log_medium old)) (faults (log_medium new)) (Err e)

  -- a name is looked up
  abbrev pub LooksUp : LogTree M → List ℕ → List ℕ → Result (Option (List ℕ)) SrvErr → LogTree M → Type 0
  LooksUp old dir name (Ok child) new =
      (option_map handle_of child ≡ target (log_tree content size old) (handle_of dir) name)
      × IsOn old (log_tree content size old) new
  LooksUp old dir name (Err e) new = IsOff old e new
