-- A store of checkpoints by what it keeps: of each checkpoint its digests at once, and texts as they are about to
-- change. A checkpoint, what is told, and what is held of it are those of the model of a cluster.
use Rattle.std.specs.Prelude.{ℕ, ◌≡◌, ◌≤◌, ◌&&◌, nat_lt, cond, if◌then◌else◌, List, [], ◌∷◌, ◌++◌, length, All, Option, Some, None, IsSomeAnd}
use Rattle.std.specs.List.Sorted.{IsStrictlySortedBy}
use Rattle.std.specs.Ordering.{nat_cmp}
use Rattle.abs_model.specs.declared.Entry.{Entry}
use Rattle.abs_model.specs.Array.{entry_at}
use Rattle.abs_text.specs.Text.{entry_text}
use Rattle.cluster_model.specs.State.{Checkpoint, lookup, has, holds_in, held_from}
use Rattle.cluster_model.specs.Moments.{from_place}
use Rattle.cluster_model.specs.Loose.{held_digests}
use Rattle.cluster_model.specs.Right.{is_told, IsNewestFirst}
use Rattle.partition_tree.specs.Digests.{IsNode, node_at}

-- how many texts there are, the place of the newest checkpoint taken, the indexes told since then in the order of the
-- notices, and the checkpoints held, the newest first
pub record Store : Type 0 where
  pub size : ℕ
  pub taken : ℕ
  pub told : List ℕ
  pub holds : List Checkpoint

-- a checkpoint of which no text is saved yet
abbrev pub fresh : ℕ → List (List ℕ) → Checkpoint
fresh place digests = record { place = place; digests = digests; saved = [] }

-- one checkpoint is held
abbrev pub begun : ℕ → List (List ℕ) → Store
begun place digests = record { size = length digests; taken = place; told = []; holds = fresh place digests ∷ [] }

-- NOTICES

-- a text is saved for an index that has none yet
abbrev pub saves : ℕ → List ℕ → List (ℕ × List ℕ) → List (ℕ × List ℕ)
saves i text saved = cond (has (lookup i saved)) saved ((i, text) ∷ saved)

-- under the newest of these checkpoints
abbrev pub saves_newest : ℕ → List ℕ → List Checkpoint → List Checkpoint
saves_newest i text [] = []
saves_newest i text (c ∷ cs) = record c { saved = saves i text c.saved } ∷ cs

-- an index is told while the array is A
abbrev pub notices : List Entry → ℕ → Store → Store
notices A i s = record s {
  told = s.told ++ i ∷ [];
  holds = saves_newest i (entry_text i (entry_at A i)) s.holds;
}

-- these are told one after the other, while the array is A
abbrev pub all_noticed : List Entry → List ℕ → Store → Store
all_noticed A [] s = s
all_noticed A (i ∷ told) s = all_noticed A told (notices A i s)

-- TAKING AND DROPPING

-- a checkpoint of this place is held besides
abbrev pub takes : ℕ → List (List ℕ) → Store → Store
takes place digests s = record s { taken = place; told = []; holds = fresh place digests ∷ s.holds }

-- those of lower places are forgotten
abbrev pub drops : ℕ → Store → Store
drops place s = record s { holds = from_place place s.holds }

-- WHAT IS HELD

-- the text of an index at a place, where the array is A: the one saved first at or after the place, else the present
-- text. There is none where the place is not held, or the index lies outside.
abbrev pub held_text : ℕ → ℕ → List Entry → Store → Option (List ℕ)
held_text place i A s =
    if holds_in place s.holds && nat_lt i s.size
    then Some (held_from place i s.holds (entry_text i (entry_at A i)))
    else None

-- in the checkpoint of a place stands a node of this level and number
abbrev pub HasNode : ℕ → ℕ → ℕ → List Checkpoint → Type 0
HasNode place level number holds =
    IsSomeAnd (held_digests place holds) (λ ds. IsNode (length ds) level number)

-- and this is its text
abbrev pub IsNodeText : ℕ → ℕ → ℕ → List Checkpoint → List ℕ → Type 0
IsNodeText place level number holds text =
    IsSomeAnd (held_digests place holds) (λ ds. text ≡ node_at ds level number)

-- a place at or before that of the newest checkpoint held
abbrev pub IsCovered : ℕ → List Checkpoint → Type 0
IsCovered place [] = ⊥
IsCovered place (c ∷ cs) = place ≤ c.place

-- WHAT A STORE KEEPS

-- under the newest checkpoint exactly the indexes told since are saved
abbrev pub IsExact : List ℕ → List Checkpoint → Type 0
IsExact told [] = Unit {0}
IsExact told (c ∷ cs) = (i : ℕ) → has (lookup i c.saved) ≡ is_told i told

-- places fall, none lies above that of the newest checkpoint taken, each checkpoint has a digest for each text, and
-- under the newest exactly what is told is saved
pub record IsKept (s : Store) : Type 0 where
  pub ordered : IsNewestFirst s.holds
  pub passed : All (λ (c : Checkpoint). c.place ≤ s.taken) s.holds
  pub sizes : All (λ (c : Checkpoint). length c.digests ≡ s.size) s.holds
  pub exact : IsExact s.told s.holds

-- the indexes told, each once and rising
pub record IsTouched (told indexes : List ℕ) : Type 0 where
  pub rising : IsStrictlySortedBy nat_cmp indexes
  pub same : (i : ℕ) → is_told i indexes ≡ is_told i told
