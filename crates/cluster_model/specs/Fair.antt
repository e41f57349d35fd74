-- The premises of the headline: Fair of a moment, and Apart of the texts up to a moment.
use Rattle.std.specs.Prelude.{◌≡◌, ℕ, suc, ◌-◌, ◌^◌, ◌<◌, ◌≤◌, ◌⊎◌, List, [], ◌∷◌, length, Some, count_by, Contains}
use Rattle.abs_model.specs.declared.Entry.{Entry}
use Rattle.cluster_model.specs.Service.{Service, array_at}
use Rattle.cluster_model.specs.Tree.{Item, item_text, node_text}
use Rattle.cluster_model.specs.State.{Checkpoint, Condition, Live, Down, Rebuilding, State, lookup_item, is_unsound}
use Rattle.cluster_model.specs.Moments.{Moment, replica}

-- at most f replicas are unsound
abbrev pub IsFair : Service → Moment → Type 0
IsFair S m = count_by is_unsound m.state.replicas ≤ S.f

-- the item lies in the tree over 16 ^ levels entries
abbrev pub IsItem : Service → Item → Type 0
IsItem S i = (i.level ≤ S.levels) × (i.number < 16 ^ (S.levels - i.level))

-- the array that a replica in this condition has
abbrev pub IsArrayIn : List Entry → Condition → Type 0
IsArrayIn a (Live l) = a ≡ l.array
IsArrayIn a Down = ⊥
IsArrayIn a (Rebuilding b) = a ≡ b.array

-- the digests that a live replica believes of its array
abbrev pub IsBelievedIn : List (List ℕ) → Condition → Type 0
IsBelievedIn ds (Live l) = ds ≡ l.believed
IsBelievedIn ds Down = ⊥
IsBelievedIn ds (Rebuilding b) = ⊥

-- a text that a live replica will give for some item whatever it holds
abbrev pub IsLieIn : List ℕ → Condition → Type 0
IsLieIn t (Live l) = (i : Item) × (lookup_item i l.lies.items ≡ Some t)
IsLieIn t Down = ⊥
IsLieIn t (Rebuilding b) = ⊥

-- the texts of a state: of each array, of each place, of each believed list, and each kept lie
pub data IsText (S : Service) (s : State) (t : List ℕ) : Type 0 where
  OfArray : (r : ℕ) (a : List Entry) (i : Item) → r < length s.replicas →
      IsArrayIn a (replica s r).condition → IsItem S i → t ≡ item_text S a i → IsText S s t
  OfPlace : (p : ℕ) (i : Item) → p ≤ length s.requests → IsItem S i →
      t ≡ item_text S (array_at S s.requests p) i → IsText S s t
  OfBelieved : (r : ℕ) (ds : List (List ℕ)) (l k : ℕ) → r < length s.replicas →
      IsBelievedIn ds (replica s r).condition → IsItem S (record { level = suc l; number = k }) →
      t ≡ node_text S ds l k → IsText S s t
  OfLie : (r : ℕ) → r < length s.replicas → IsLieIn t (replica s r).condition → IsText S s t

-- P of one of these moments
abbrev pub Among : (Moment → Type 0) → List Moment → Type 0
Among P [] = ⊥
Among P (m ∷ ms) = P m ⊎ Among P ms

-- two different texts of these moments have different digests
abbrev pub IsApart : Service → List Moment → Type 0
IsApart S ms =
    (a b : List ℕ) → Among (λ m. IsText S m.state a) ms → Among (λ m. IsText S m.state b) ms →
    S.digest a ≡ S.digest b → a ≡ b

-- The premise of one step, on the state before it: besides, the texts that the state keeps from earlier
-- moments

-- a text that a replica in this condition keeps: saved under a checkpoint, or got in a transfer
abbrev pub IsSavedIn : List ℕ → Condition → Type 0
IsSavedIn t (Live l) = (i : ℕ) × (c : Checkpoint) × Contains l.holds c × Contains c.saved (i, t)
IsSavedIn t Down = ⊥
IsSavedIn t (Rebuilding b) = (i : Item) × Contains b.got (i, t)

-- the digests of a checkpoint that a live replica holds
abbrev pub IsHeldListIn : List (List ℕ) → Condition → Type 0
IsHeldListIn ds (Live l) = (c : Checkpoint) × Contains l.holds c × (c.digests ≡ ds)
IsHeldListIn ds Down = ⊥
IsHeldListIn ds (Rebuilding b) = ⊥

-- the texts of a state, and those that it keeps
pub data IsKept (S : Service) (s : State) (t : List ℕ) : Type 0 where
  Known : IsText S s t → IsKept S s t
  Saved : (r : ℕ) → r < length s.replicas → IsSavedIn t (replica s r).condition → IsKept S s t
  OfHeld : (r : ℕ) (ds : List (List ℕ)) (l k : ℕ) → r < length s.replicas →
      IsHeldListIn ds (replica s r).condition → IsItem S (record { level = suc l; number = k }) →
      t ≡ node_text S ds l k → IsKept S s t

-- no two different texts of a state, or kept by it, share a digest
abbrev pub IsApartNow : Service → State → Type 0
IsApartNow S s = (a b : List ℕ) → IsKept S s a → IsKept S s b → S.digest a ≡ S.digest b → a ≡ b
