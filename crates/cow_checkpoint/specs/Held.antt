-- How a store looks for what it holds. Contracts inside the crate and their proofs use it.
use Rattle.std.specs.Prelude.{ℕ, ◌==◌, nat_le, if◌then◌else◌, List, [], ◌∷◌, find, Option, None}
use Rattle.std.specs.Option.{option_or}
use Rattle.cluster_model.specs.State.{Checkpoint, lookup}

-- the checkpoint of a place, if it is held
abbrev pub held_at : ℕ → List Checkpoint → Option Checkpoint
held_at place holds = find (λ (c : Checkpoint). c.place == place) holds

-- what this checkpoint has for a place at or before its own
abbrev pub saved_in : ℕ → ℕ → Checkpoint → Option (List ℕ)
saved_in place i c = if nat_le place c.place then lookup i c.saved else None

-- the text saved first at or after a place: that of an older checkpoint counts before that of a newer one
abbrev pub saved_from : ℕ → ℕ → List Checkpoint → Option (List ℕ)
saved_from place i [] = None
saved_from place i (c ∷ cs) = option_or (saved_from place i cs) (saved_in place i c)
