-- Of each key the newest record, in a list of records with the oldest first.
use Rattle.std.specs.Prelude.{◌≡◌, ◌+◌, ◌++◌, ◌<◌, ℕ, List, [], ◌∷◌, Bool, true, false, Option, Some, None, cond, drop, slice_get, bytes_eq}
use Rattle.log_segments.specs.Record.{is_gone, key_of}

-- a record of the list has this key
abbrev pub has_key : List ℕ → List (List ℕ) → Bool
has_key key [] = false
has_key key (r ∷ rs) = cond (bytes_eq (key_of r) key) true (has_key key rs)

-- a record, or none where it takes its key away
abbrev pub standing : List ℕ → List (List ℕ)
standing r = cond (is_gone r) [] (r ∷ [])

-- the live records: those that no later one replaces, and that take no key away
abbrev pub live : List (List ℕ) → List (List ℕ)
live [] = []
live (r ∷ rs) = cond (has_key (key_of r) rs) (live rs) (standing r ++ live rs)

-- the records of other keys
abbrev pub without : List ℕ → List (List ℕ) → List (List ℕ)
without key [] = []
without key (r ∷ rs) = cond (bytes_eq (key_of r) key) (without key rs) (r ∷ without key rs)

-- live records once one more record stands behind them
abbrev pub after : List (List ℕ) → List ℕ → List (List ℕ)
after records r = without (key_of r) records ++ standing r

-- the record of a key among live records
abbrev pub find : List ℕ → List (List ℕ) → Option (List ℕ)
find key [] = None
find key (r ∷ rs) = cond (bytes_eq (key_of r) key) (Some r) (find key rs)

-- the live records from a place on are this one, if there is one, and those behind the place
abbrev pub IsLiveAt : List (List ℕ) → ℕ → Option (List ℕ) → Type 0
IsLiveAt records place None = live (drop place records) ≡ live (drop (place + 1) records)
IsLiveAt records place (Some r) = live (drop place records) ≡ r ∷ live (drop (place + 1) records)

-- where the newest record of a key stands, if it stands: `place` before the records of the list, of which the first
-- stands at `at`
abbrev pub place_from : ℕ → Option ℕ → List (List ℕ) → List ℕ → Option ℕ
place_from at place [] key = place
place_from at place (r ∷ rs) key =
    place_from (at + 1) (cond (bytes_eq (key_of r) key) (cond (is_gone r) None (Some at)) place) rs key

-- where the newest record of a key stands among all records, if it stands
abbrev pub place_of : List (List ℕ) → List ℕ → Option ℕ
place_of rs key = place_from 0 None rs key

-- these are the places where the newest records of all keys with a prefix stand, each once, the newest first
pub record ArePlacesUnder (records : List (List ℕ)) (prefix places : List ℕ) : Type 0 where
  pub sound : (k p : ℕ) → slice_get places k ≡ Some p
      → (rest : List ℕ) × (place_of records (prefix ++ rest) ≡ Some p)
  pub complete : (rest : List ℕ) (p : ℕ) → place_of records (prefix ++ rest) ≡ Some p
      → (k : ℕ) × (slice_get places k ≡ Some p)
  pub falling : (j k p q : ℕ) → slice_get places j ≡ Some p → slice_get places k ≡ Some q → j < k → q < p
