-- The lowest free index, and the generation that comes next there.
use Rattle.std.proofs.Common.{◌≡◌, ℕ, ◌+◌, ◌-◌, ◌^◌, ◌<◌, arith, true, List, length, Option, Some, get_or, Fits, w32, refl, sym, ap, ◌∙◌, subst}
use Rattle.std.specs.Prelude.{nat_lt, position}
use Rattle.std.proofs.lemmas.Option.{slice_get_read, slice_get_within, slice_get-get_or}
use Rattle.std.proofs.lemmas.List.Quantifiers.{position-Some}
use Rattle.nfs2_types.specs.declared.Time.{Time}
use Rattle.server_trait.specs.Tree.{Tree, Server}
use Rattle.server_trait.specs.declared.bench.ConfEntry.{ConfEntry}
use Rattle.server_trait.specs.declared.bench.ConfTable.{ConfTable}
use Rattle.abs_model.specs.declared.entry.Entry.{Entry}
use Rattle.abs_model.specs.declared.entry.Object.{Object}
use Rattle.abs_model.specs.Objects.{is_null}
use Rattle.abs_model.specs.Array.{entry_at, null_entry, can_take, free}
use Rattle.conf_map.specs.Stands.{Stands}
use Rattle.conf_map.specs.declared.table.Located.{Located}
use Rattle.conf_map.specs.Tallied.{is_free_row, NoneFreeBelow}
use Rattle.conf_map.proofs.Seen.{free_agrees}
use Rattle.conf_map.proofs.Tallies.{stands_counted}
use Rattle.server_trait.proofs.TreeLaws.{some_same}
use Rattle.conf_map.proofs.ArrayFacts.{lt_of, within_at}
use Rattle.conf_map.proofs.RowFacts.{and_left, and_right}
use Rattle.node_changes.specs.declared.add.Place.{Place}
use Rattle.node_changes.specs.News.{CanAdd, IsAdded}
use Rattle.node_changes.specs.Objects.{New}
use Rattle.node_changes.proofs.AddLaws.{can_still}
use Rattle.wrap_make.specs.Places.{CanMake, next_generation, IsAddedNext}

-- a null entry whose generation can rise
pub record IsFreeAt (A : List Entry) (i : ℕ) : Type 0 where
  pub below : i < length A
  pub is_null : is_null (entry_at A i) ≡ true
  pub low : (entry_at A i).generation < 2 ^ 32 - 1

pub free_at : (A : List Entry) (i : ℕ) → free A ≡ Some i → IsFreeAt A i
free_at A i is =
    let at = position-Some can_take A i null_entry is in
    let e : Entry = entry_at A i in
    record {
      below = at.0;
      is_null = and_left (is_null e) (nat_lt e.generation (2 ^ 32 - 1)) at.1;
      low = lt_of e.generation (2 ^ 32 - 1) (and_right (is_null e) (nat_lt e.generation (2 ^ 32 - 1)) at.1);
    }

module _ (s : Server) (table : ConfTable) (A : List Entry) (name : List ℕ) (new : New) (p : Place)
    (c : CanMake s table A name new p) where
  pub index_below : p.index < length table.rows.items
  index_below = let below = c.can.below in let size = c.can.stands.size in omega (arith, below, size)

  module _ (r : ConfEntry) (read : r ≡ get_or table.rows.items p.index r) where
    -- the row has the entry's generation
    pub same_generation : r.generation ≡ (entry_at A p.index).generation
    same_generation =
        let at = slice_get_read table.rows.items (length table.rows.items) p.index r refl index_below read in
        (c.can.stands.each p.index r (entry_at A p.index) at (within_at A p.index c.can.below)).generation

    -- which can rise
    pub can_rise : Fits w32 (r.generation + 1)
    can_rise =
        let same = same_generation in
        let low = (free_at A p.index c.is_free).low in
        omega (arith, same, low)

    pub is_next : r.generation + 1 ≡ next_generation A p.index
    is_next = ap (λ g. g + 1) same_generation

-- no row below the lowest free one is free
none_below : (rows : List ConfEntry) (i : ℕ) → position is_free_row rows ≡ Some i → NoneFreeBelow i rows
none_below rows i is k r below at =
    let first = position-Some is_free_row rows i r is in
    let within = slice_get_within rows k r at in
    let same : get_or rows k r ≡ r = some_same (slice_get-get_or rows k r within) at in
    ap is_free_row (sym same) ∙ first.2 k below

-- where nothing has changed, and the lowest free row is known, the object can be added
pub can_add_next : (s s' : Server) (table : ConfTable) (A : List Entry) (name : List ℕ) (new : New) (p : Place) →
    s'.tree ≡ s.tree → s'.limits ≡ s.limits → CanMake s table A name new p →
    CanAdd s' (record table { lowest = p.index }) A name new p
can_add_next s s' table A name new p tree limits c =
    let k = can_still s s' table A name new p tree limits c.can in
    record {
      limits = k.limits;
      within = k.within;
      valid = k.valid;
      stands = stands_counted refl refl k.stands;
      tallied = record {
        used = k.tallied.used;
        none_below = none_below table.rows.items p.index (free_agrees s'.tree table A k.stands ∙ c.is_free);
      };
      room = k.room;
      live = k.live;
      is_dir = k.is_dir;
      good = k.good;
      lacks = k.lacks;
      small = k.small;
      below = k.below;
      is_null = k.is_null;
      space = k.space;
    }

-- an object of the next generation is added
pub as_next : {A : List Entry} {p : Place} {name : List ℕ} {time : Time} {new : Object} {tree : Option Tree}
    {table : ConfTable} {at : Located} {g : ℕ} → g ≡ next_generation A p.index →
    IsAdded A p g name time new tree table at → IsAddedNext A p name time new tree table at
as_next {A} {p} {name} {time} {new} {tree} {table} {at} same =
    subst (λ g. IsAdded A p g name time new tree table at) same
