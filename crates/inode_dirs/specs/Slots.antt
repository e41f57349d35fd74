-- The slots of a directory, each a name with the inode that it leads to, and an index of them.
use Rattle.std.specs.Prelude.{◌≡◌, ◌↔◌, ℕ, suc, List, map, take, set, length, slice_get, Option, Some, refl}
use Rattle.std.specs.Coded.{Coded, code_by, coded×, coded_ℕ}
use Rattle.std.specs.FinMap.{from_entries, get}
use Rattle.std.specs.Option.{option_map}
use Rattle.server_trait.specs.Tree.{ByBytes, Names}
use Rattle.inode_dirs.specs.declared.index.Place.{Place}

-- the slots of a directory, in their order
abbrev pub Slots : Type 0
Slots = List (List ℕ × ℕ)

-- the index answers each name of the slots with its place, and no other name; so each name stands once
abbrev pub IsIndexOf : (List ℕ → Option Place) → Slots → Type 0
IsIndexOf f slots = (q : List ℕ) (p : Place) → (f q ≡ Some p) ↔ (slice_get slots p.slot ≡ Some (q, p.inode))

-- the inode to which a name leads by an index
abbrev pub inode_by : ByBytes Place → List ℕ → Option ℕ
inode_by index name = option_map (λ (p : Place). p.inode) (get index name)

-- the last slot has moved into the place of another, which is gone
pub record IsDropped (old : Slots) (k : ℕ) (last : List ℕ) (inode : ℕ) (new : Slots) : Type 0 where
  pub rest : ℕ
  pub size : length old ≡ suc rest
  pub is_last : slice_get old rest ≡ Some (last, inode)
  pub are : new ≡ take rest (set old k (last, inode))

-- the names of a directory, with the handles of the inodes that they lead to
unfoldable pub names_of : (ℕ → List ℕ) → Slots → Names
names_of handle slots = from_entries (map (λ s. (s.0, handle s.1)) slots)

-- a place is stored as the pair of its parts
abbrev pub place_code : Coded Place
place_code = code_by (ℕ × ℕ) (coded× coded_ℕ coded_ℕ) (λ p. (p.slot, p.inode))
    (λ q. record { slot = q.0; inode = q.1 }) (λ _. refl)
