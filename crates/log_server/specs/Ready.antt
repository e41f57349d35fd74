-- What a server on a log keeps true of its tree.
use Rattle.std.specs.Prelude.{◌≡◌, ℕ, Bool, true, List}
use Rattle.log_held.specs.Room.{IsLarge}
use Rattle.log_changes.specs.Kept.{IsKept, log_medium}
use Rattle.log_changes.specs.declared.tree.LogTree.{LogTree}

-- the medium has room for what the limits ask for, and while the server is up its memory is that of the tree
pub record IsReady {M : Type 0} (content : M → ℕ → List ℕ) (size : M → ℕ) (up : Bool) (t : LogTree M) : Type 0 where
  pub large : IsLarge t.limits (size (log_medium t))
  pub kept : up ≡ true → IsKept content size t
