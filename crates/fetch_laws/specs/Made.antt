-- What the code does in a Fetch, in the words of the fetch that it keeps.
use Rattle.std.specs.Prelude.{◌≡◌, ◌≢◌, ℕ, ◌<◌, ◌≤◌, ◌^◌, ◌-◌, false, List, [], ◌∷◌, ◌++◌, length, Some, None, IsSome, All}
use Rattle.nfs2_types.specs.declared.Limits.{Limits}
use Rattle.abs_model.specs.declared.Entry.{Entry}
use Rattle.abs_model.specs.Array.{changed}
use Rattle.abs_model.specs.Valid.{Valid}
use Rattle.cluster_model.specs.Service.{Service}
use Rattle.cluster_model.specs.Tree.{Item, item, item_at}
use Rattle.cluster_model.specs.State.{Fetching, Condition, Live, Down, Rebuilding}
use Rattle.cluster_model.specs.Moments.{Moment, Faults, replica}
use Rattle.cluster_model.specs.Step.{FetchEnd, Missing, Forgets, Whole, aimed}
use Rattle.cluster_model.specs.Loose.{IsGiven, given}
use Rattle.service_laws.specs.Served.{service}
use Rattle.state_transfer.specs.Fetch.{Fetch, Fits}
use Rattle.state_transfer.specs.Stand.{next_in}
use Rattle.recovery.specs.Rebuilt.{Rebuilt, HasFetched}

-- none of these texts shares a digest with another one, of an item of the tree over the array c
abbrev pub AreApartFrom : Service → List Entry → List (Item × List ℕ) → Type 0
AreApartFrom S c got = All (λ (g : Item × List ℕ). (l k : ℕ) → l ≤ S.levels → k < 16 ^ (S.levels - l) →
    S.digest g.1 ≡ S.digest (item_at S c l k) → g.1 ≡ item_at S c l k) got

-- how it ends: something is missing; or nothing is, and the changed array is not valid, or it is this one, which is
abbrev pub EndsSo : Limits → List Entry → Rebuilt → FetchEnd → Type 0
EndsSo limits A b Missing = IsSome (next_in b.fetch.stand)
EndsSo limits A b Forgets = (next_in b.fetch.stand ≡ None) × (Valid limits (changed b.fetch.changes A) → ⊥)
EndsSo limits A b (Whole a) = (next_in b.fetch.stand ≡ None) × (a ≡ changed b.fetch.changes A) × Valid limits a

-- a replica in this condition, asked for the item that is next at place p, gives no text that is taken
abbrev pub GivesNone : Service → ℕ → Fetch → Condition → Type 0
GivesNone S p f (Live l) = (x : ℕ × List ℕ) (xs : List (ℕ × List ℕ)) (text : List ℕ) → f.stand.rest ≡ x ∷ xs →
    given S p l (item f.stand.level x.0) ≡ Some text → Fits f.stand.level x text → ⊥
GivesNone S p f Down = Unit {0}
GivesNone S p f (Rebuilding b) = Unit {0}

-- What the code did in a Fetch of r of at most n items at the moment m, where r has what b says: which items it got,
-- from whom, and how it ended. Last is what it keeps at the end.
pub record FetchMade (limits : Limits) (faults : Faults) (r n : ℕ) (m : Moment) (b : Fetching)
    (items : List (Item × List ℕ)) (end : FetchEnd) : Type 0 where
  pub last : Rebuilt
  pub few : length items ≤ n
  pub root : last.root ≡ m.state.root
  pub fetched : HasFetched b.array ((aimed m.state.stable b).got ++ items) last
  pub given : All (IsGiven (service limits) m.state r) items
  pub ended : EndsSo limits b.array last end
  -- where fewer than n were got and something is missing, each other replica whose server did not fail was asked in
  -- vain
  pub asked : length items ≢ n → IsSome (next_in last.fetch.stand) → (j : ℕ) → j < length m.state.replicas → j ≢ r →
      ((stage : ℕ) → stage ≤ length items → faults stage j ≡ false) →
      GivesNone (service limits) m.state.stable last.fetch (replica m.state j).condition
