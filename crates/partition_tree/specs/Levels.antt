-- How a tree is kept: the digests of level 0, behind them those of level 1, and so on, the root's last. Contracts
-- inside the crate and their proofs use it.
use Rattle.std.specs.Prelude.{ℕ, zero, suc, ◌+◌, ◌-◌, ◌^◌, ◌/◌, ◌<◌, ◌≤◌, ◌≡◌, List, [], ◌∷◌, ◌++◌, get_or, length}
use Rattle.sha2.specs.Sha256.{sha256}
use Rattle.partition_tree.specs.Digests.{node_over, most_levels}

-- how many digests a level has
abbrev pub width : ℕ → ℕ → ℕ
width levels level = 16 ^ (levels - level)

-- where a level begins
abbrev pub start : ℕ → ℕ → ℕ
start levels zero = 0
start levels (suc level) = start levels level + width levels level

-- the digests that are kept, from this place on
abbrev pub from : List (List ℕ) → ℕ → ℕ → List ℕ
from kept place k = get_or kept (place + k) []

-- the digests of the first so many nodes of a level, over those of the level below
abbrev pub nodes_upto : (ℕ → List ℕ) → ℕ → ℕ → List (List ℕ)
nodes_upto below level zero = []
nodes_upto below level (suc n) = nodes_upto below level n ++ sha256 (node_over below level n) ∷ []

-- a node's digest is that of its text over the level below
abbrev pub IsRight : ℕ → List (List ℕ) → ℕ → ℕ → Type 0
IsRight levels kept level number =
    get_or kept (start levels (suc level) + number) [] ≡
    sha256 (node_over (from kept (start levels level)) (suc level) number)

-- the nodes of the first so many levels are right
abbrev pub AreRight : ℕ → List (List ℕ) → ℕ → Type 0
AreRight levels kept upto = (level number : ℕ) → level < upto → number < width levels (suc level) →
    IsRight levels kept level number

-- all nodes are right, and nothing is kept besides
pub record IsTree (levels : ℕ) (kept : List (List ℕ)) : Type 0 where
  pub some : 1 ≤ levels
  pub few : levels ≤ most_levels
  pub size : length kept ≡ start levels (suc levels)
  pub right : AreRight levels kept levels

-- all nodes are right but the one over this digest
abbrev pub AreRightBut : ℕ → List (List ℕ) → ℕ → ℕ → Type 0
AreRightBut levels kept level number = (l n : ℕ) → l < levels → n < width levels (suc l) →
    ((l ≡ level) × (n ≡ number / 16) → ⊥) → IsRight levels kept l n
