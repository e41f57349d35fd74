-- What a live replica gives for an item of a checkpoint, and whether it is taken where it is wanted.
use Rattle.std.specs.Prelude.{◌≡◌, ℕ, ◌∷◌, Bool, true, false, List, Option, Some, IsSome, MatchOption}
use Rattle.abs_model.specs.declared.Entry.{Entry}
use Rattle.cluster_model.specs.State.{lookup_item}
use Rattle.cluster_model.specs.Tree.{Item, item}
use Rattle.state_transfer.specs.Fetch.{Fits}
use Rattle.state_transfer.specs.Stand.{next_in}
use Rattle.recovery.specs.Rebuilt.{Rebuilt, HasFetched, with_item}
use Rattle.recovery.specs.Served.{IsHeldItem}
use Rattle.replica.specs.declared.Replica.{Replica}
use Rattle.seats.specs.declared.seat.Seat.{Seat}
use Rattle.seats.specs.declared.seat.Seat.TheVariants.{Live, Rebuilding, Down}

-- this is given for the item with this level and number at a place, where the replica's array is A: its newest lie
-- about the item, or else what it holds
abbrev pub IsGivenItem : ℕ → ℕ → ℕ → List Entry → Replica → Option (List ℕ) → Type 0
IsGivenItem place level number A k text = MatchOption (lookup_item (item level number) k.lies.items)
    (IsHeldItem place level number A k.store text)
    (λ lie. text ≡ Some lie)

-- this text was taken for the item that was next: what was got grew by it
pub record HasTaken (text : List ℕ) (b b' : Rebuilt) : Type 0 where
  pub target : b'.target ≡ b.target
  pub root : b'.root ≡ b.root
  pub missing : IsSome (next_in b.fetch.stand)
  pub got : (A : List Entry) (got : List (Item × List ℕ)) → HasFetched A got b →
      HasFetched A (with_item got (next_in b.fetch.stand) text) b'

-- this is no text for the item that is next
abbrev pub IsRefused : List ℕ → Rebuilt → Type 0
IsRefused text b = (x : ℕ × List ℕ) (xs : List (ℕ × List ℕ)) → b.fetch.stand.rest ≡ x ∷ xs →
    Fits b.fetch.stand.level x text → ⊥

-- A text was offered to what was being rebuilt, and was taken; or it is none for the item that is next, and nothing
-- changed. Any other seat takes none.
abbrev pub Answered : List ℕ → Seat → Seat → Bool → Type 0
Answered text (Rebuilding b) new true = (b' : Rebuilt) × (new ≡ Rebuilding b') × HasTaken text b b'
Answered text (Rebuilding b) new false = (new ≡ Rebuilding b) × IsRefused text b
Answered text (Live k) new taken = (taken ≡ false) × (new ≡ Live k)
Answered text Down new taken = (taken ≡ false) × (new ≡ Down)
