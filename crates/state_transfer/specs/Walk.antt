-- How a fetch is kept. Contracts inside the crate and their proofs use it.
use Rattle.std.specs.Prelude.{◌≡◌, ℕ, ◌+◌, ◌-◌, ◌*◌, ◌<◌, ◌≤◌, List, [], All, length, drop, Result, Ok, Err}
use Rattle.std.specs.Vec.{vec_capacity}
use Rattle.partition_tree.specs.Digests.{most_levels}
use Rattle.partition_tree.specs.Levels.{width}
use Rattle.state_transfer.specs.declared.walk.Walk.{Walk}
use Rattle.nfs2_types.specs.declared.NoMemory.{NoMemory}
use Rattle.state_transfer.specs.declared.item.Taken.{Taken}
use Rattle.state_transfer.specs.declared.item.Taken.TheVariants.{Good, Wrong}
use Rattle.state_transfer.specs.Stand.{Own, Stand, goes_on}
use Rattle.state_transfer.specs.Fetch.{Fetch, HasForm, Adds, counted}

-- where it stands
abbrev pub stand_of : Walk → Stand
stand_of w = record { level = w.level; rest = drop w.next w.wanted.items; lower = w.lower.items }

-- as callers see it
abbrev pub fetch_of : List (List ℕ) → ℕ → Walk → Fetch
fetch_of own place w = record {
  own = own;
  place = place;
  levels = w.levels;
  stand = stand_of w;
  nodes = w.nodes;
  changes = w.changes.items;
}

-- numbers lie in their levels, the counts are small, and there is room for one item
pub record IsSound (w : Walk) : Type 0 where
  pub most : w.levels ≤ most_levels
  pub level : w.level ≤ w.levels
  pub within : w.next ≤ length w.wanted.items
  pub small : All (λ x. x.0 < width w.levels w.level) w.wanted.items
  pub lower_small : All (λ x. x.0 < width w.levels (w.level - 1)) w.lower.items
  pub bottom : w.level ≡ 0 → w.lower.items ≡ []
  pub few : length w.wanted.items ≤ width w.levels w.level
  pub lower_few : length w.lower.items ≤ 16 * w.next
  pub nodes : w.nodes + 4096 * w.level ≤ 4096 * most_levels + w.next
  pub changes : length w.changes.items ≤ w.next
  pub none : 0 < w.level → w.changes.items ≡ []
  pub room : 1 ≤ vec_capacity w.wanted
  pub lower_room : 1 ≤ vec_capacity w.lower

-- it stands and counts as before
pub record IsAsBefore (old new : Walk) : Type 0 where
  pub stand : stand_of new ≡ stand_of old
  pub nodes : new.nodes ≡ old.nodes
  pub changes : new.changes.items ≡ old.changes.items

-- the bytes were taken for the item that was next, which has this number
pub record HasPassed (own : Own) (number : ℕ) (text : List ℕ) (old new : Walk) : Type 0 where
  pub form : HasForm old.level number text
  pub stand : stand_of new ≡ goes_on own old.level number (drop (old.next + 1) old.wanted.items) old.lower.items text
  pub nodes : new.nodes ≡ counted old.level old.nodes
  pub changes : Adds old.level number text old.changes.items new.changes.items

-- bytes that have the digest of the item that is next are taken exactly where they have its form
abbrev pub Passes : Own → ℕ → List ℕ → Walk → Walk → Result Taken NoMemory → Type 0
Passes own number text old new (Ok Good) = HasPassed own number text old new
Passes own number text old new (Ok Wrong) = (HasForm old.level number text → ⊥) × IsAsBefore old new
Passes own number text old new (Err e) = IsAsBefore old new
