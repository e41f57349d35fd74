-- Tables by themselves: the look-ups in one, and when its map of handles goes with its rows.
use Rattle.std.specs.Prelude.{◌≡◌, ◌↔◌, ℕ, List, Bool, ◌==◌, if◌then◌else◌, bytes_eq, false, Option, None, Some, slice_get}
use Rattle.std.specs.Option.{option_and_then, option_map}
use Rattle.std.specs.Ordering.{nat_cmp}
use Rattle.std.specs.Cmp.Lexicographic.{slice_cmp}
use Rattle.std.specs.BTreeMap as ordered
use Rattle.nfs2_types.specs.declared.handle.Oid.{Oid}
use Rattle.nfs2_types.specs.declared.Time.{Time}
use Rattle.nfs2_types.specs.Handle.{oid_in}
use Rattle.conf_map.specs.declared.table.Located.{Located}
use Rattle.server_trait.specs.declared.bench.ConfEntry.{ConfEntry}
use Rattle.server_trait.specs.declared.bench.ConfTable.{ConfTable}
use Rattle.conf_map.specs.Stands.{handle_at}

-- the handle in the row of an object, where the row's generation is the object's
abbrev pub live_in : List ConfEntry → Oid → Option (List ℕ)
live_in rows o = option_and_then (λ r. if r.generation == o.generation then r.handle else None)
    (slice_get rows o.index)

-- the row of a handle that names a live object, and that object's node
abbrev pub located : List ConfEntry → List ℕ → Option Located
located rows h = option_and_then
    (λ o. option_map (λ x. record { index = o.index; handle = x }) (live_in rows o))
    (oid_in h)

-- a row with its node's handle
abbrev pub IsLive : List ConfEntry → Located → Type 0
IsLive rows at = handle_at rows at.index ≡ Some at.handle

-- the row that the map has for a handle
abbrev pub index_in : ConfTable → List ℕ → Option ℕ
index_in table h = ordered.get (slice_cmp nat_cmp) table.by_handle h

-- the map holds exactly the pairs of handle and row
abbrev pub IsInStep : ConfTable → Type 0
IsInStep table = (h : List ℕ) (i : ℕ) → (index_in table h ≡ Some i) ↔ (handle_at table.rows.items i ≡ Some h)

-- it is this handle
abbrev pub has_handle : Option (List ℕ) → List ℕ → Bool
has_handle None h = false
has_handle (Some x) h = bytes_eq x h

-- no other row than this one has the handle
abbrev pub IsUnshared : List ConfEntry → ℕ → Option (List ℕ) → Type 0
IsUnshared rows index handle = (i : ℕ) (h : List ℕ) → handle ≡ Some h → handle_at rows i ≡ Some h → i ≡ index

-- a row without its handle, which keeps its generation
abbrev pub emptied : ConfEntry → ConfEntry
emptied r = record r { handle = None }

-- a row whose object is written at a moment
abbrev pub touched : Time → ConfEntry → ConfEntry
touched t r = record r { mtime = t; ctime = t }

-- the rows, the map's pairs and the tally are as they were
pub record IsSameTable (old new : ConfTable) : Type 0 where
  pub rows : new.rows ≡ old.rows
  pub used : new.used ≡ old.used
  pub lowest : new.lowest ≡ old.lowest
  pub by_handle : ordered.IsUnchanged old.by_handle new.by_handle
