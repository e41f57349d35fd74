-- What is given of an object is set, and server and table stand for the array with it.
use Rattle.std.proofs.Common.{◌≡◌, ℕ, ◌+◌, ◌<◌, ◌^◌, arith, true, false, List, set, Option, Some, None, slice_get, slice_set, refl, sym, ap, ◌∙◌}
use Rattle.std.specs.Prelude.{◌&&◌, is_some, unwrap_or}
use Rattle.std.proofs.lemmas.Option.{slice_get_within}
use Rattle.nfs2_types.specs.declared.Sattr.{Sattr}
use Rattle.nfs2_types.specs.declared.Time.{Time}
use Rattle.server_trait.specs.Tree.{Tree, Server, edited}
use Rattle.server_trait.proofs.TreeLaws.{and_then_some}
use Rattle.server_trait.specs.declared.bench.ConfEntry.{ConfEntry}
use Rattle.server_trait.specs.declared.bench.ConfTable.{ConfTable}
use Rattle.server_trait.specs.declared.server.NodeAttr.{NodeAttr}
use Rattle.abs_model.specs.declared.entry.Object.{Object}
use Rattle.abs_model.specs.declared.entry.Object.TheVariants.{Null, File, Dir, Link}
use Rattle.abs_model.specs.declared.entry.Entry.{Entry}
use Rattle.abs_model.specs.Objects.{is_null, is_file, is_dir, is_link, used_by}
use Rattle.abs_model.specs.Array.{entry_at, used}
use Rattle.conf_map.specs.Stands.{handle_at, Stands}
use Rattle.conf_map.specs.Tallied.{Tallied}
use Rattle.conf_map.specs.declared.table.Located.{Located}
use Rattle.conf_map.proofs.Frames.{handle_of_row}
use Rattle.conf_map.proofs.InStep.{slice_get-set_same}
use Rattle.conf_map.proofs.LiveRows.{is_live}
use Rattle.conf_map.proofs.ObjectChanges.{at_index, stands_alike}
use Rattle.node_changes.specs.Settings.{CanSet, SuitsIf, node_set, row_set, entry_set, size_goes}
use Rattle.node_changes.specs.Tallies.{CanShift, ShiftsTally}
use Rattle.node_changes.proofs.Alike.{set_alike}
use Rattle.node_changes.proofs.TalliedArrays.{can_count, set_moves}
use Rattle.node_changes.proofs.UsedLaws.{used_file}

-- a file is no directory, and no link
no_dir : (g : ℕ) (o : Object) → is_file (record { generation = g; object = o }) ≡ true →
    is_dir (record { generation = g; object = o }) ≡ false
no_dir g Null is = refl
no_dir g (File a b) is = refl
no_dir g (Dir a b) is = absurd (let bad : false ≡ true = is in cc)
no_dir g (Link a b) is = refl

no_link : (g : ℕ) (o : Object) → is_file (record { generation = g; object = o }) ≡ true →
    is_link (record { generation = g; object = o }) ≡ false
no_link g Null is = refl
no_link g (File a b) is = refl
no_link g (Dir a b) is = refl
no_link g (Link a b) is = absurd (let bad : false ≡ true = is in cc)

module _ (s : Server) (table : ConfTable) (A : List Entry) (attr : NodeAttr) (sattr : Sattr) (o : Located)
    (c : CanSet s table A attr sattr o) where
  abbrev e : Entry
  e = entry_at A o.index

  live : is_null e ≡ false
  live =
      let k = at_index s.tree table A c.stands o.index o.handle c.live in
      is_live s.tree table A c.stands o.index o.handle k.0 k.1 e k.2

  sized_no_dir : (size : Option ℕ) → SuitsIf c.limits A e size → (is_some size && is_dir e) ≡ false
  sized_no_dir None suits = refl
  sized_no_dir (Some size) suits = no_dir e.generation e.object suits.0

  sized_no_link : (size : Option ℕ) → SuitsIf c.limits A e size → (is_some size && is_link e) ≡ false
  sized_no_link None suits = refl
  sized_no_link (Some size) suits = no_link e.generation e.object suits.0

  module _ (s' : Option Tree) (table' : ConfTable) (t : Time)
      (set_node : (t : Tree) → s.tree ≡ Some t → s' ≡ Some (edited t o.handle (node_set sattr attr)))
      (rows : (r : ConfEntry) → slice_get table.rows.items o.index ≡ Some r →
      table'.rows.items ≡ slice_set table.rows.items o.index (row_set sattr t r))
      (by : table'.by_handle ≡ table.by_handle) where
    pub set_stands : Stands s' table' (set A o.index (entry_set e sattr t))
    set_stands = stands_alike s.tree table A c.stands o.index o.handle c.live s' table' (entry_set e sattr t)
        (node_set sattr attr) (row_set sattr t)
        (set_alike table.rows.items e sattr attr t live c.seen (sized_no_dir sattr.size c.suits)
        (sized_no_link sattr.size c.suits)) set_node rows by

-- a row whose times are set has its handle still
pub set_live : (table table' : ConfTable) (o : Located) (row : ConfEntry → ConfEntry) →
    ((r : ConfEntry) → (row r).handle ≡ r.handle) →
    ((r : ConfEntry) → slice_get table.rows.items o.index ≡ Some r →
    table'.rows.items ≡ slice_set table.rows.items o.index (row r)) →
    handle_at table.rows.items o.index ≡ Some o.handle → handle_at table'.rows.items o.index ≡ Some o.handle
set_live table table' o row same rows live =
    let r = and_then_some (λ (r : ConfEntry). r.handle) (slice_get table.rows.items o.index) o.handle live in
    handle_of_row table'.rows.items o.index (row r.0)
    (ap (λ l. slice_get l o.index) (rows r.0 r.1)
    ∙ slice_get-set_same table.rows.items o.index (row r.0) r.0 r.1) ∙ same r.0 ∙ r.2

module _ (s : Server) (table : ConfTable) (A : List Entry) (attr : NodeAttr) (sattr : Sattr) (o : Located)
    (c : CanSet s table A attr sattr o) (t : Time) where
  abbrev after : List Entry
  after = set A o.index (entry_set (entry_at A o.index) sattr t)

  moves : used after + size_goes attr sattr ≡ used A + unwrap_or sattr.size 0
  moves =
      let at = (at_index s.tree table A c.stands o.index o.handle c.live).2 in
      set_moves A o.index sattr t attr.size (slice_get_within A o.index (entry_at A o.index) at.is_entry)
      (by_size sattr.size c.suits)
    where
      by_size : (size : Option ℕ) → SuitsIf c.limits A (entry_at A o.index) size → is_some size ≡ true →
          used_by (entry_at A o.index) ≡ attr.size
      by_size None suits is = absurd (let bad : false ≡ true = is in cc)
      by_size (Some size) suits is = used_file (entry_at A o.index) suits.0
          ∙ sym (c.seen.size (no_dir (entry_at A o.index).generation (entry_at A o.index).object suits.0))

  small : unwrap_or sattr.size 0 < 2 ^ 32
  small = by_size sattr.size c.suits
    where
      by_size : (size : Option ℕ) → SuitsIf c.limits A (entry_at A o.index) size → unwrap_or size 0 < 2 ^ 32
      by_size None suits = omega arith
      by_size (Some size) suits = let least = suits.1.small in omega (arith, least)

  -- the table can count the size
  pub set_counts : CanShift table (size_goes attr sattr) (unwrap_or sattr.size 0)
  set_counts = can_count c.limits after (size_goes attr sattr)
      (unwrap_or sattr.size 0) c.within c.valid.room c.tallied small moves

  pub set_tallied : (table' : ConfTable) → ShiftsTally table table' (size_goes attr sattr) (unwrap_or sattr.size 0) →
      Tallied table' after
  set_tallied table' shifts = shifts A after c.tallied moves
