-- What the servers' counts of failures tell. A server is followed by its number, through the positions of
-- the bench, which a Swap exchanges.
use Rattle.std.specs.Prelude.{◌≡◌, ℕ, ◌+◌, ◌-◌, ◌^◌, ◌<◌, ◌≤◌, min, List, Some, slice_get}
use Rattle.log_format.specs.declared.Event.{Event}
use Rattle.log_format.specs.declared.Event.TheVariants.{Swap}
use Rattle.cluster_model.specs.Moments.{Moment}
use Rattle.cluster_model.specs.Turns.{last}
use Rattle.cluster_model.specs.Run.{strikes}

-- the positions that a Swap names are there
abbrev pub IsInBench : ℕ → Event → Type 0
IsInBench n (Swap r spare) = (r < n) × (spare < n)
IsInBench n _ = Unit {0}

module _ (Server Limits : Type 0) (count : Server → ℕ) (limits : Server → Limits) where
  -- y is the server x later: with at least so many more failures, where a count at its greatest value stays
  -- there, and with none where none was met
  pub record IsLater (n : ℕ) (x y : Server) : Type 0 where
    pub same_limits : limits y ≡ limits x
    pub rose : min (count x + n) (2 ^ 64 - 1) ≤ count y
    pub quiet : n ≡ 0 → count y ≡ count x

  -- each server failed at least as often as these moments, which follow m, strike it; and not where they do
  -- not
  abbrev pub AreStruck : Moment → List Moment → List Server → List Server → Type 0
  AreStruck m ms servers servers' = (s i j : ℕ) (x y : Server) → slice_get m.state.bench i ≡ Some s →
      slice_get (last m ms).state.bench j ≡ Some s →
      slice_get servers i ≡ Some x → slice_get servers' j ≡ Some y → IsLater (strikes s m ms) x y
