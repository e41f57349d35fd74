-- The walk that a fetch makes: it sees digests alone.
use Rattle.std.specs.Prelude.{◌≡◌, ◌≢◌, ℕ, zero, suc, ◌<◌, ◌≤◌, ◌⊎◌, false, not, List, [], ◌∷◌, ◌++◌, length, filter, bytes_eq, zip, Some, All}
use Rattle.abs_model.specs.declared.Entry.{Entry}
use Rattle.log_format.specs.declared.Event.{Event}
use Rattle.log_format.specs.declared.Event.TheVariants.{Fetch}
use Rattle.log_format.specs.declared.Line.TheVariants as lines
use Rattle.log_format.specs.declared.IdleCause.TheVariants.{NotRebuilding}
use Rattle.cluster_model.specs.Service.{Service}
use Rattle.cluster_model.specs.Tree.{Item, digest_at, digests, children}
use Rattle.cluster_model.specs.State.{Fetching, Condition, Live, Down, Rebuilding, Replica, State}
use Rattle.cluster_model.specs.Moments.{Moment, Faults, print, replica}
use Rattle.cluster_model.specs.Step.{FetchEnd, Missing, Forgets, Whole, aims, aimed, fetches, step}
use Rattle.cluster_model.specs.Fair.{IsApartNow, IsItem}
use Rattle.cluster_model.specs.Loose.{IsGiven, IsPut, ServesIn}

-- Numbers of one level, each with the digest that is expected there.

-- those whose own digests differ
abbrev pub sought : Service → List (List ℕ) → ℕ → List (ℕ × List ℕ) → List (ℕ × List ℕ)
sought S own l fr = filter (λ x. not (bytes_eq (digest_at S own l x.0) x.1)) fr

-- these items of a level are got in their order, as far as got goes; each has its digest; then goes on what
-- stands below them
abbrev pub IsGotAt : Service → (List (ℕ × List ℕ) → List (Item × List ℕ) → Type 0) → ℕ → List (ℕ × List ℕ) →
    List (ℕ × List ℕ) → List (Item × List ℕ) → Type 0
IsGotAt S then l [] lower got = then lower got
IsGotAt S then l (x ∷ xs) lower [] = Unit {0}
IsGotAt S then l (x ∷ xs) lower (g ∷ got) =
    (g.0 ≡ record { level = l; number = x.0 }) × (S.digest g.1 ≡ x.1)
    × IsGotAt S then l xs (lower ++ zip (children x.0) (S.parts g.1)) got

-- got is as far as a walk came, from a level down, from what its own tree has
abbrev pub IsWalk : Service → List (List ℕ) → ℕ → List (ℕ × List ℕ) → List (Item × List ℕ) → Type 0
IsWalk S own zero fr got = IsGotAt S (λ lower rest. rest ≡ []) 0 (sought S own 0 fr) [] got
IsWalk S own (suc l) fr got = IsGotAt S (λ lower rest. IsWalk S own l lower rest) (suc l)
    (sought S own (suc l) fr) [] got

-- nothing is missing: the walk came to its end

-- all these items of a level are got, each has its digest, and then goes on what stands below them
abbrev pub IsAllGotAt : Service → (List (ℕ × List ℕ) → List (Item × List ℕ) → Type 0) → ℕ →
    List (ℕ × List ℕ) → List (ℕ × List ℕ) → List (Item × List ℕ) → Type 0
IsAllGotAt S then l [] lower got = then lower got
IsAllGotAt S then l (x ∷ xs) lower [] = ⊥
IsAllGotAt S then l (x ∷ xs) lower (g ∷ got) =
    (g.0 ≡ record { level = l; number = x.0 }) × (S.digest g.1 ≡ x.1)
    × IsAllGotAt S then l xs (lower ++ zip (children x.0) (S.parts g.1)) got

-- got is a whole walk, from a level down
abbrev pub IsWholeWalk : Service → List (List ℕ) → ℕ → List (ℕ × List ℕ) → List (Item × List ℕ) → Type 0
IsWholeWalk S own zero fr got = IsAllGotAt S (λ lower rest. rest ≡ []) 0 (sought S own 0 fr) [] got
IsWholeWalk S own (suc l) fr got = IsAllGotAt S (λ lower rest. IsWholeWalk S own l lower rest) (suc l)
    (sought S own (suc l) fr) [] got

-- a node text is of the grammar: of its level and number, with sixteen digests
abbrev pub IsFormed : Service → Item × List ℕ → Type 0
IsFormed S g = (l : ℕ) → g.0.level ≡ suc l → (length (S.parts g.1) ≡ 16)
    × (S.node (suc l) g.0.number (S.parts g.1) ≡ g.1)

-- got is as far as a walk from the root d came, with node texts of the grammar, where the replica's own
-- array is b
abbrev pub IsGoing : Service → List Entry → List ℕ → List (Item × List ℕ) → Type 0
IsGoing S b d got = IsWalk S (digests S b) S.levels ((0, d) ∷ []) got × All (IsFormed S) got

-- how a fetch ends that got these items in all: something is missing; or with nothing missing they are put
-- in, which gives a good array, or none
abbrev pub IsEnded : Service → List ℕ → List Entry → List (Item × List ℕ) → FetchEnd → Type 0
IsEnded S d b got Missing = IsWholeWalk S (digests S b) S.levels ((0, d) ∷ []) got → ⊥
IsEnded S d b got Forgets = IsWholeWalk S (digests S b) S.levels ((0, d) ∷ []) got
    × ((a : List Entry) → IsPut S b got a → S.good a → ⊥)
IsEnded S d b got (Whole a) = IsWholeWalk S (digests S b) S.levels ((0, d) ∷ []) got × S.good a
    × IsPut S b got a

-- what the code's fetch of at most n items is, towards the root d: b is what the replica had, with its
-- target set
pub record IsWalked (S : Service) (d : List ℕ) (n : ℕ) (b : Fetching) (items : List (Item × List ℕ))
    (end : FetchEnd) : Type 0 where
  pub few : length items ≤ n
  pub going : IsGoing S b.array d (b.got ++ items)
  pub ended : IsEnded S d b.array (b.got ++ items) end

-- what the code's fetch of r of at most n items at the moment m is: each field tells what the code does,
-- and none but the last supposes Apart
pub record IsWalkedFetch (S : Service) (faults : Faults) (r n : ℕ) (m : Moment) (b : Fetching)
    (items : List (Item × List ℕ)) (end : FetchEnd) : Type 0 where
  pub given : All (IsGiven S m.state r) items
  pub inside : All (λ (x : Item × List ℕ). IsItem S x.0) items
  pub walked : IsWalked S m.state.root n (aimed m.state.stable b) items end
  -- where no two texts kept share a digest and a source has not failed up to the stage at which the fetch ends, the
  -- number is reached or nothing is missing: were there two, one that lies could lead the fetch to what no other has
  pub goes_on : IsApartNow S m.state → (j : ℕ) (c : List Entry) → j < length m.state.replicas → j ≢ r →
      ServesIn S m.state.stable m.state.root c (replica m.state j).condition →
      ((stage : ℕ) → stage ≤ length items → faults stage j ≡ false) →
      (n ≡ length items) ⊎ IsWholeWalk S (digests S (aimed m.state.stable b).array) S.levels
      ((0, m.state.root) ∷ []) ((aimed m.state.stable b).got ++ items)

-- what a Rebuilding replica got is as far as a walk from the stable root came, whenever the stable place is
-- its target; and no target lies above the stable place
abbrev pub IsWalkIn : Service → State → Condition → Type 0
IsWalkIn S s (Live l) = Unit {0}
IsWalkIn S s Down = Unit {0}
IsWalkIn S s (Rebuilding b) = ((t : ℕ) → b.target ≡ Some t → t ≤ s.stable)
    × (b.target ≡ Some s.stable → IsGoing S b.array s.root b.got)

-- the same of each replica
abbrev pub HasWalks : Service → State → Type 0
HasWalks S s = All (λ (x : Replica). IsWalkIn S s x.condition) s.replicas

-- The code's step: a loose step whose Fetch is a walk

-- what the Fetch of the code does, by the condition of its replica
abbrev pub WalkedFetch : Service → Faults → ℕ → ℕ → Moment → Condition → List Moment → Type 0
WalkedFetch S faults r n m (Live l) ms = ms ≡ print (lines.Idle r NotRebuilding) m ∷ []
WalkedFetch S faults r n m Down ms = ms ≡ print (lines.Idle r NotRebuilding) m ∷ []
WalkedFetch S faults r n m (Rebuilding b) ms =
    (items : List (Item × List ℕ)) × (end : FetchEnd)
    × IsWalkedFetch S faults r n m b items end
    × (ms ≡ fetches S faults r end 0 items (aims r m b))

-- what a record does in the code
abbrev pub WalkedStep : Service → Faults → Event → Moment → List Moment → Type 0
WalkedStep S faults (Fetch r n) m ms = WalkedFetch S faults r n m (replica m.state r).condition ms
WalkedStep S faults e m ms = ms ≡ step S faults e m
