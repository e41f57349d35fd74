-- A name more of a file or a link: what it asks of server and table, and that they stand for the array which has it.
use Rattle.std.proofs.Common.{◌≡◌, ◌≢◌, ℕ, ◌<◌, arith, List, length, Option, Some, None, refl, sym, ap, ◌∙◌, subst}
use Rattle.std.specs.FinMap.{insert}
use Rattle.std.proofs.lemmas.Bool.{true≢false}
use Rattle.std.proofs.lemmas.Option.{slice_get_within}
use Rattle.nfs2_types.specs.declared.Time.{Time}
use Rattle.server_trait.specs.Tree.{Tree, Server, Node, with_names, named}
use Rattle.server_trait.specs.declared.bench.ConfEntry.{ConfEntry}
use Rattle.server_trait.specs.declared.bench.ConfTable.{ConfTable}
use Rattle.server_trait.proofs.TreeLaws.{is_some_and, some_same, get-insert_same, get-insert_other, node_at-edited_same, node_at-edited_other, root-edited}
use Rattle.abs_model.specs.declared.entry.NameRow.{NameRow}
use Rattle.abs_model.specs.declared.entry.Entry.{Entry}
use Rattle.abs_model.specs.Objects.{is_dir, names_of, attr_of, row_of, placed, with_attr, changed_at}
use Rattle.abs_model.specs.Array.{entry_at, changed}
use Rattle.abs_model.specs.Machine.{row_to}
use Rattle.abs_model.specs.Machine as machine
use Rattle.abs_model.proofs.Facts.{no_row}
use Rattle.conf_map.specs.Moves.{IsAt, AddsName}
use Rattle.conf_map.specs.Stands.{StandValid, HasRoom, Stands}
use Rattle.conf_map.specs.Tables.{touched}
use Rattle.conf_map.specs.Tallied.{Tallied}
use Rattle.conf_map.specs.declared.table.Located.{Located}
use Rattle.conf_map.proofs.Agrees.{used_agrees, nodes_few}
use Rattle.conf_map.proofs.SetNames.{stands_added}
use Rattle.conf_map.proofs.ObjectChanges.{at_index}
use Rattle.conf_map.proofs.PlacedRows.{row_of-placed_same, row_of-placed_other}
use Rattle.conf_map.proofs.Targets.{lacks_agrees, other_not_dir}
use Rattle.node_changes.specs.Links.{IsRoomToLink, HasRoomToLink, names_both, CanLink}
use Rattle.node_changes.specs.NameRows.{changed_row, ChangesRow}
use Rattle.node_changes.proofs.NameSets.{NameSet, name_set, stays_changed}
use Rattle.node_changes.specs.Tallies.{CanShift, ShiftsTally}
use Rattle.node_changes.proofs.TalliedArrays.{link_moves}
use Rattle.node_changes.proofs.TallyLaws.{can_shift}
use Rattle.node_changes.proofs.TwoSet.{IsSetTwice, set_twice}

-- WHAT A NEW NAME ASKS

module _ (s : Server) (table : ConfTable) (A : List Entry) (name : List ℕ) (dir o : Located)
    (c : CanLink s table A name dir o) where
  abbrev d : ℕ
  d = dir.index

  abbrev i : ℕ
  i = o.index

  abbrev dh : List ℕ
  dh = dir.handle

  abbrev h : List ℕ
  h = o.handle

  abbrev t : Tree
  t = c.stands.tree

  at_dir : (r : ConfEntry) × (n : Node) × IsAt t table A d dh r n (entry_at A d)
  at_dir = at_index s.tree table A c.stands d dh c.live

  at_object : (r : ConfEntry) × (n : Node) × IsAt t table A i h r n (entry_at A i)
  at_object = at_index s.tree table A c.stands i h c.object

  pub link_dir_below : d < length table.rows.items
  link_dir_below = slice_get_within table.rows.items d at_dir.0 at_dir.2.is_row

  pub link_object_below : i < length table.rows.items
  link_object_below = slice_get_within table.rows.items i at_object.0 at_object.2.is_row

  pub link_apart : d ≢ i
  link_apart e = true≢false (sym c.is_dir ∙ ap (λ k. is_dir (entry_at A k)) e ∙ c.no_dir)

  pub link_valid : StandValid s.tree table A
  link_valid = record { limits = c.limits; within = c.within; valid = c.valid; stands = c.stands; tallied = c.tallied }

  absent : row_of name (names_of (entry_at A d)) ≡ None
  absent = no_row name (names_of (entry_at A d)) c.lacks

  -- the table can count the name
  pub link_counts : CanShift table 0 512
  link_counts =
      let room = c.valid.room in
      let most = c.within.3 in
      can_shift 0 512 c.tallied (omega (arith, room, most)) (omega arith) (omega arith)

  -- the server has room for the name
  pub has_room : HasRoomToLink s h dh name
  has_room =
      let same = used_agrees c.limits s.tree table A c.stands c.valid in
      let few = nodes_few c.limits s.tree table A c.stands c.valid in
      let size = c.valid.size in
      let nodes = c.room.nodes in
      let bytes = c.room.bytes in
      let space = c.space in
      is_some_and (λ t. IsRoomToLink s t h dh name) c.stands.has_tree (record {
        no_dir = other_not_dir s.tree table A c.stands i h at_object.0 at_object.1 (entry_at A i) at_object.2 c.no_dir;
        lacks = (lacks_agrees s.tree table A c.stands d dh at_dir.0 at_dir.1 (entry_at A d) at_dir.2 c.is_dir name).1
            absent;
        room = (omega (arith, few, size, nodes), omega (arith, same, bytes, space));
      })

  -- THE NEW NAME

  module _ (time : Time) (table' : ConfTable) (changes : ChangesRow table table' d i time) where
    abbrev to_row : NameRow
    to_row = row_to name i (entry_at A i).generation

    abbrev ed : Entry
    ed = machine.with_names (placed to_row) time (entry_at A d)

    abbrev ei : Entry
    ei = with_attr (changed_at time (attr_of (entry_at A i))) (entry_at A i)

    abbrev A' : List Entry
    A' = changed (names_both A d name i time) A

    abbrev t' : Tree
    t' = named t dh name h

    abbrev more : Node → Node
    more = with_names (λ m. insert m name h)

    entries : IsSetTwice d i ed ei A A'
    entries = set_twice d i (entry_at A d) (entry_at A i) ed ei A A' link_apart at_dir.2.is_entry at_object.2.is_entry
        refl

    rows : IsSetTwice d i (touched time at_dir.0) (changed_row time at_object.0) table.rows.items table'.rows.items
    rows = set_twice d i at_dir.0 at_object.0 (touched time at_dir.0) (changed_row time at_object.0)
        table.rows.items table'.rows.items link_apart at_dir.2.is_row at_object.2.is_row
        (changes.rows at_dir.0 at_object.0 at_dir.2.is_row at_object.2.is_row)

    in_dir : NameSet t table A d dh name (Some h) (Some to_row) t' table' A'
    in_dir = name_set s.tree table A c.stands d dh c.live c.is_dir name (Some h) (Some to_row) (λ m. insert m name h)
        (placed to_row) time t' table' A' (λ n at. node_at-edited_same t dh more n at)
        (λ m. get-insert_same m name h) (λ m x ne. get-insert_other m name h x ne)
        (λ r at. rows.first ∙ ap (λ r. Some (touched time r)) (some_same at_dir.2.is_row at))
        entries.first (row_of-placed_same to_row (names_of (entry_at A d)) absent)
        (row_of-placed_other to_row (names_of (entry_at A d)))

    adds : AddsName t table A d name i t' table' A'
    adds = record {
      handle = h;
      to_row = to_row;
      in_dir = in_dir.sets;
      was_new = ap (row_of name) in_dir.names ∙ absent;
      to_index = refl;
      object = stays_changed s.tree table A c.stands i h c.object c.no_dir time t' table' A'
          (λ r at. rows.second ∙ ap (λ r. Some (changed_row time r)) (some_same at_object.2.is_row at)) entries.second;
      apart = link_apart;
      root = root-edited t dh more;
      nodes = λ q ne. node_at-edited_other t dh more q (λ e. ne (e ∙ sym in_dir.handle));
      rows = rows.stay;
      by_handle = changes.by_handle;
      array = entries.stay;
    }

    -- the table counts the name
    pub link_tallied : ShiftsTally table table' 0 512 → Tallied table' A'
    link_tallied shifts = shifts A A' c.tallied (link_moves A d i to_row time link_apart
        (slice_get_within A d (entry_at A d) at_dir.2.is_entry)
        (slice_get_within A i (entry_at A i) at_object.2.is_entry)
        c.is_dir)

    -- server and table stand for the array with the name
    pub link_stands : (s' : Option Tree) →
        ((t : Tree) → s.tree ≡ Some t → s' ≡ Some (named t dh name h)) → Stands s' table' A'
    link_stands s' added = stands_added s.tree s' table table' A A' t' d i name c.stands adds
        (added t c.stands.has_tree)

-- WHERE NOTHING HAS CHANGED

-- what the server holds and can hold is the same, so the object can still get the name
pub can_still_link : (s s' : Server) (table : ConfTable) (A : List Entry) (name : List ℕ) (dir o : Located) →
    s'.tree ≡ s.tree → s'.limits ≡ s.limits → CanLink s table A name dir o → CanLink s' table A name dir o
can_still_link s s' table A name dir o same_tree same_limits c = record {
  limits = c.limits;
  within = c.within;
  valid = c.valid;
  stands = subst (λ s. Stands s table A) (sym same_tree) c.stands;
  tallied = c.tallied;
  room = subst (HasRoom c.limits) (sym same_limits) c.room;
  live = c.live;
  is_dir = c.is_dir;
  good = c.good;
  lacks = c.lacks;
  object = c.object;
  no_dir = c.no_dir;
  space = c.space;
}
