-- What a server on a log is to its callers.
use Rattle.std.specs.Prelude.{ℕ, Bool, List, Option, None, if◌then◌else◌}
use Rattle.server_trait.specs.Tree.{Server, Tree}
use Rattle.server_trait.specs.declared.server.ServerLimits.{ServerLimits}
use Rattle.log_tree.specs.Held.{held}

-- a medium, the limits of the tree on it, and whether the tree is served
pub record Served (M : Type 0) : Type 0 where
  pub up : Bool
  pub limits : ServerLimits
  pub medium : M

-- the tree within the limits that the blocks of the medium hold, or none
abbrev pub held_on : {M : Type 0} → (M → ℕ → List ℕ) → (M → ℕ) → Served M → Option Tree
held_on content size s = held (content s.medium) (size s.medium) s.limits

-- the server: while it is up, its tree is the one that its medium holds
abbrev pub state_of : {M : Type 0} → (M → ℕ → List ℕ) → (M → ℕ) → (M → ℕ) → Served M → Server
state_of content size faults s = record {
  tree = if s.up then held_on content size s else None;
  limits = s.limits;
  faults = faults s.medium;
}
