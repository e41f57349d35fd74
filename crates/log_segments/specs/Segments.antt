-- A log on a medium: block 0 names the current half, and each half has its records from its start to its end mark.
use Rattle.std.specs.Prelude.{◌≡◌, ◌+◌, ◌-◌, ◌/◌, ◌^◌, ◌<◌, ◌⊎◌, ◌↔◌, ℕ, zero, suc, List, [], ◌∷◌, ◌++◌, Bool, None, Some, IsTrue, bytes_eq, cond, length}
use Rattle.std.specs.BTreeSet.{BTreeSet, contains}
use Rattle.std.specs.FinMap as map
use Rattle.std.specs.FinMap.{FinMap}
use Rattle.std.specs.Ordering.{nat_cmp}
use Rattle.std.specs.Cmp.Lexicographic.{slice_cmp}
use Rattle.log_segments.specs.declared.log.Log.{Log}
use Rattle.log_segments.specs.Record.{is_end}
use Rattle.log_segments.specs.Newest.{live, place_of}

-- WHAT A MEDIUM HOLDS

-- the blocks of one half, of a medium of so many blocks
abbrev pub half_size : ℕ → ℕ
half_size size = (size - 1) / 2

-- where the current half begins: at block 1, or, where block 0 does not begin with 0, behind the first half
abbrev pub start_of : (ℕ → List ℕ) → ℕ → ℕ
start_of content size = cond (is_end (content 0)) 1 (1 + half_size size)

-- so many blocks, from this one on
abbrev pub blocks_from : (ℕ → List ℕ) → ℕ → ℕ → List (List ℕ)
blocks_from content at zero = []
blocks_from content at (suc count) = content at ∷ blocks_from content (at + 1) count

-- the blocks up to the first end mark
abbrev pub records_in : List (List ℕ) → List (List ℕ)
records_in [] = []
records_in (block ∷ blocks) = cond (is_end block) [] (block ∷ records_in blocks)

-- the records of the half that begins there
abbrev pub records_from : (ℕ → List ℕ) → ℕ → ℕ → List (List ℕ)
records_from content size start = records_in (blocks_from content start (half_size size))

-- the records of the current half
unfoldable pub records : (ℕ → List ℕ) → ℕ → List (List ℕ)
records content size = records_from content size (start_of content size)

-- of each key the newest record
abbrev pub live_records : (ℕ → List ℕ) → ℕ → List (List ℕ)
live_records content size = live (records content size)

-- WHAT A LOG KEEPS IN MEMORY

-- a key's newest record stands at this place of the half, or its key is gone
pub record IsNoted (old new : FinMap (slice_cmp nat_cmp) ℕ) (key : List ℕ) (gone : Bool) (place : ℕ) : Type 0 where
  pub at : (k : List ℕ) → map.get new k ≡ cond (bytes_eq key k) (cond gone None (Some place)) (map.get old k)

-- the set has the places of all keys that begin with a prefix, and no other
abbrev pub HasUnder : FinMap (slice_cmp nat_cmp) ℕ → List ℕ → BTreeSet ℕ → Type 0
HasUnder places prefix set =
    (p : ℕ) → IsTrue (contains nat_cmp set p) ↔ ((rest : List ℕ) × (map.get places (prefix ++ rest) ≡ Some p))

-- start, end and places are those of the records on the medium
pub record IsOpen (content : ℕ → List ℕ) (size start end : ℕ) (places : FinMap (slice_cmp nat_cmp) ℕ) : Type 0 where
  pub few : size < 2 ^ 32
  pub begins : start ≡ start_of content size
  pub ends : end ≡ length (records content size)
  pub places_are : (key : List ℕ) → map.get places key ≡ place_of (records content size) key

-- WHAT CONTRACTS SAY OF A LOG

-- the medium that it stands on
abbrev pub medium_of : {M : Type 0} → Log M → M
medium_of log = log.medium

-- what it keeps in memory is what its medium holds
abbrev pub IsLog : {M : Type 0} → (M → ℕ → List ℕ) → (M → ℕ) → Log M → Type 0
IsLog content size log = IsOpen (content log.medium) (size log.medium) log.start log.end log.places

-- the records of its current half, the oldest first
abbrev pub records_of : {M : Type 0} → (M → ℕ → List ℕ) → (M → ℕ) → Log M → List (List ℕ)
records_of content size log = records (content log.medium) (size log.medium)

-- of each key the newest record
abbrev pub live_of : {M : Type 0} → (M → ℕ → List ℕ) → (M → ℕ) → Log M → List (List ℕ)
live_of content size log = live_records (content log.medium) (size log.medium)

-- the blocks of one half
abbrev pub half_of : {M : Type 0} → (M → ℕ) → Log M → ℕ
half_of size log = half_size (size log.medium)

-- one record more stands behind the others
abbrev pub Appends : {M : Type 0} → (M → ℕ → List ℕ) → (M → ℕ) → Log M → List ℕ → Log M → Type 0
Appends content size old block new = records_of content size new ≡ records_of content size old ++ block ∷ []

-- one more record can be put behind those of the current half
abbrev pub HasRoom : {M : Type 0} → (M → ℕ) → Log M → Type 0
HasRoom size log = log.end + 1 < half_size (size log.medium)

-- of the two halves one begins at s, and the other at t
pub record IsOther (size s t : ℕ) : Type 0 where
  pub halves : ((s ≡ 1) × (t ≡ 1 + half_size size)) ⊎ ((s ≡ 1 + half_size size) × (t ≡ 1))
