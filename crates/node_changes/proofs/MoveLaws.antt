-- A name moves to one that is free: at the server, in the table and in the array.
use Rattle.std.proofs.Common.{◌≡◌, ◌≢◌, inl, inr, ℕ, List, true, false, length, Option, Some, None, Err, IsSomeAnd, slice_get, slice_set, refl, sym, ap, ◌∙◌, subst}
use Rattle.std.specs.Prelude.{bytes_eq, if◌then◌else◌}
use Rattle.std.specs.FinMap.{insert, remove}
use Rattle.std.proofs.lemmas.List.{length-set}
use Rattle.std.proofs.lemmas.Option.{slice_get_within}
use Rattle.nfs2_types.specs.declared.Time.{Time}
use Rattle.server_trait.specs.Tree.{Tree, Server, Node, node_at, target, named, unnamed, let_go, with_names}
use Rattle.server_trait.specs.Step.{IsBroken, Outcome, OnlySoft}
use Rattle.server_trait.specs.Calls.{RenameErr, renamed}
use Rattle.server_trait.specs.declared.server.SrvErr.{SrvErr}
use Rattle.server_trait.specs.declared.server.SrvErr.TheVariants.{Refused, Full}
use Rattle.server_trait.specs.declared.bench.ConfEntry.{ConfEntry}
use Rattle.server_trait.specs.declared.bench.ConfTable.{ConfTable}
use Rattle.server_trait.proofs.NameSoftLaws.{CanRename, rename_soft}
use Rattle.server_trait.proofs.OrderLaws.{rename_order}
use Rattle.server_trait.proofs.SoftLaws.{failed, some_of}
use Rattle.server_trait.proofs.TreeLaws.{some_and, some_none, some_same, one_or_not, get-insert_same, get-insert_other, get-remove_same, get-remove_other, root-edited, node_at-edited_same, node_at-edited_other}
use Rattle.abs_model.specs.declared.entry.Entry.{Entry}
use Rattle.abs_model.specs.declared.entry.NameRow.{NameRow}
use Rattle.abs_model.specs.Objects.{is_dir, names_of, row_of}
use Rattle.abs_model.specs.Array.{entry_at, changed, has_name}
use Rattle.abs_model.specs.Machine.{row_to}
use Rattle.abs_model.specs.Machine as machine
use Rattle.abs_model.proofs.Facts.{HasRow, row_is, no_row}
use Rattle.conf_map.specs.Stands.{handle_at, Stands}
use Rattle.conf_map.specs.Moves.{IsAt, AddsName, DropsName}
use Rattle.conf_map.specs.Tables.{touched}
use Rattle.conf_map.specs.Tallied.{Tallied, KeepsTally}
use Rattle.conf_map.proofs.Tallies.{tallied_kept}
use Rattle.conf_map.specs.declared.table.Located.{Located}
use Rattle.conf_map.proofs.Frames.{handle_of_row, same_handle, entry_at-some}
use Rattle.conf_map.proofs.InStep.{slice_get-set_same, slice_get-set_other}
use Rattle.conf_map.proofs.Kept.{one_row}
use Rattle.conf_map.proofs.SetNames.{stands_added, stands_dropped}
use Rattle.conf_map.proofs.Targets.{target_some, target_none}
use Rattle.node_changes.specs.NameRows.{IsPutUnder}
use Rattle.node_changes.specs.Moves.{CanMove, name_moves}
use Rattle.node_changes.specs.NameRows.{under}
use Rattle.node_changes.proofs.DirNames.{found, map_of, sets_name, stays_as}
use Rattle.node_changes.proofs.MovedArrays.{comes, with_name, Leaves, leaves}
use Rattle.node_changes.proofs.RowsByName.{row_of-comes_same, row_of-comes_other}
use Rattle.node_changes.proofs.TalliedArrays.{move_same}
use Rattle.node_changes.proofs.TallyLaws.{keeps_both}
use Rattle.node_changes.proofs.WalkLaws.{dir_back, way_back}

module _ (s : Server) (table : ConfTable) (A : List Entry) (name to_name : List ℕ) (d e o : Located)
    (c : CanMove s table A name to_name d e o) where
  abbrev t : Tree
  t = c.stands.tree

  abbrev R : List ConfEntry
  R = table.rows.items

  abbrev from_i : ℕ
  from_i = d.index

  abbrev to_i : ℕ
  to_i = e.index

  abbrev at_i : ℕ
  at_i = o.index

  at_d : (r : ConfEntry) × (n : Node) × IsAt t table A from_i d.handle r n (entry_at A from_i)
  at_d = found s.tree table A c.stands from_i d.handle c.from_live

  at_e : (r : ConfEntry) × (n : Node) × IsAt t table A to_i e.handle r n (entry_at A to_i)
  at_e = found s.tree table A c.stands to_i e.handle c.to_live

  at_o : (r : ConfEntry) × (n : Node) × IsAt t table A at_i o.handle r n (entry_at A at_i)
  at_o = found s.tree table A c.stands at_i o.handle c.led.live

  -- the row by which the first name leads
  led_row : HasRow A from_i name
  led_row = row_is A from_i name c.led.has

  is_o : led_row.row.index ≡ at_i
  is_o = sym led_row.leads_there ∙ c.led.target

  lacks : row_of to_name (names_of (entry_at A to_i)) ≡ None
  lacks = no_row to_name (names_of (entry_at A to_i)) c.lacks

  -- two names in one directory differ
  differ : from_i ≡ to_i → name ≢ to_name
  differ same_dir same_name =
      let has : has_name A to_i to_name ≡ true = ap (λ i. has_name A i to_name) (sym same_dir)
      ∙ ap (has_name A from_i) (sym same_name) ∙ c.led.has in
      let bad : true ≡ false = sym has ∙ c.lacks in cc

  to_apart : to_i ≢ at_i
  to_apart same = c.not_below (ap (λ i. is_dir (entry_at A i)) (sym same) ∙ c.to_dir) 0 (sym same)

  -- WHAT THE SERVER CAN ANSWER

  moved_target : target t d.handle name ≡ Some o.handle
  moved_target =
      let x = target_some s.tree table A c.stands from_i d.handle at_d.0 at_d.1
      (entry_at A from_i) at_d.2 c.from_dir name led_row.row led_row.found in
      x.1 ∙ (sym x.2 ∙ ap (handle_at R) is_o ∙ c.led.live)

  no_target : target t e.handle to_name ≡ None
  no_target = target_none s.tree table A c.stands to_i e.handle at_e.0 at_e.1
      (entry_at A to_i) at_e.2 c.to_dir to_name lacks

  can_rename : CanRename t d.handle name e.handle to_name o.handle
  can_rename =
      let m = map_of s.tree table A c.stands to_i e.handle c.to_live c.to_dir in
      record {
        is_moved = moved_target;
        into = m.0;
        is_into = m.1;
        not_below = λ dir below. c.not_below (dir_back s.tree table A c.stands at_i o.handle c.led.live dir) below.0
            (way_back s.tree table A c.stands below.0 at_i to_i o.handle e.handle c.led.live c.to_live below.1);
        fits = λ r is _. absurd (some_none is no_target);
      }

  none : (err : SrvErr) → ¬ (RenameErr d.handle name e.handle to_name t err)
  none Refused a = let x = some_of (target t e.handle to_name) a in some_none x.1 no_target
  none Full a = a
  none err a = rename_soft can_rename err a

  abbrev Moved : Tree → Unit {0} → Option Tree → Type 0
  Moved t _ after = IsSomeAnd (target t d.handle name) (λ h. after ≡ Some (renamed t d.handle name e.handle to_name h))

  -- the call that moves the name can only fail
  pub rename_fails : (s' : Option Tree) (err : SrvErr) →
      ((t : Tree) → s.tree ≡ Some t → Outcome {T = Unit {0}} (Moved t) (RenameErr d.handle name e.handle to_name t) t
      (Err err) s') →
      IsBroken err
  rename_fails s' err call =
      failed {T = Unit {0}} (Moved t) (RenameErr d.handle name e.handle to_name t) t err s' none
      (call t c.stands.has_tree)

  -- first the second name is added, and then the first goes
  abbrev added : Tree
  added = named t e.handle to_name o.handle

  abbrev after : Tree
  after = unnamed added d.handle name

  tree_after : renamed t d.handle name e.handle to_name o.handle ≡ after
  tree_after =
      ap (λ x. elim x as (λ _. Tree) [
        | None ↦ named (unnamed t d.handle name) e.handle to_name o.handle
        | Some r ↦ if bytes_eq r o.handle then t else let_go
            (named (unnamed t d.handle name) e.handle to_name o.handle) r
      ]) no_target
      ∙ rename_order t d.handle name e.handle to_name o.handle at_d.1 at_e.1 at_d.2.is_node at_e.2.is_node
      (λ same. differ (one_row t table c.stands.placed e.handle from_i to_i (c.from_live ∙ ap Some same) c.to_live))

  pub renamed_to : (s' : Option Tree) → ((t : Tree) → s.tree ≡ Some t →
      Moved t tt s' × OnlySoft (RenameErr d.handle name e.handle to_name t)) → s' ≡ Some after
  renamed_to s' call =
      let x = some_and (target t d.handle name) (λ h. s' ≡ Some (renamed t d.handle name e.handle to_name h))
      (call t c.stands.has_tree).0 in
      x.2 ∙ ap (λ h. Some (renamed t d.handle name e.handle to_name h)) (some_same x.1 moved_target)
      ∙ ap Some tree_after

  module _ (table1 table2 : ConfTable) (time : Time) (put : IsPutUnder table table1 to_i at_i time)
      (touch : (r : ConfEntry) → slice_get table1.rows.items from_i ≡ Some r →
      table2.rows.items ≡ slice_set table1.rows.items from_i (touched time r))
      (by_handle : table2.by_handle ≡ table1.by_handle) where
    abbrev R' : List ConfEntry
    R' = table1.rows.items

    abbrev R'' : List ConfEntry
    R'' = table2.rows.items

    abbrev ro : ConfEntry
    ro = under to_i at_o.0

    abbrev re : ConfEntry
    re = touched time at_e.0

    abbrev row : NameRow
    row = row_to to_name at_i (entry_at A at_i).generation

    abbrev A1 : List Entry
    A1 = with_name A to_i row time

    abbrev A2 : List Entry
    A2 = changed (name_moves A from_i name to_i to_name at_i time) A

    abbrev came : Entry
    came = machine.with_names (comes row) time (entry_at A to_i)

    -- THE SECOND NAME COMES

    rows1 : R' ≡ slice_set (slice_set R at_i ro) to_i re
    rows1 = put.rows at_o.0 at_e.0 at_o.2.is_row at_e.2.is_row to_apart

    row1_e : slice_get R' to_i ≡ Some re
    row1_e = ap (λ l. slice_get l to_i) rows1
        ∙ slice_get-set_same (slice_set R at_i ro) to_i re at_e.0
        (slice_get-set_other R at_i to_i ro to_apart ∙ at_e.2.is_row)

    row1_o : slice_get R' at_i ≡ Some ro
    row1_o = ap (λ l. slice_get l at_i) rows1 ∙ slice_get-set_other (slice_set R at_i ro) to_i at_i re
        (λ x. to_apart (sym x))
        ∙ slice_get-set_same R at_i ro at_o.0 at_o.2.is_row

    row1_other : (j : ℕ) → j ≢ to_i → j ≢ at_i → slice_get R' j ≡ slice_get R j
    row1_other j not_e not_o = ap (λ l. slice_get l j) rows1 ∙ slice_get-set_other (slice_set R at_i ro) to_i j re not_e
        ∙ slice_get-set_other R at_i j ro not_o

    entry1_e : slice_get A1 to_i ≡ Some came
    entry1_e = slice_get-set_same A to_i came (entry_at A to_i) at_e.2.is_entry

    entry1_other : (j : ℕ) → j ≢ to_i → slice_get A1 j ≡ slice_get A j
    entry1_other j ne = slice_get-set_other A to_i j came ne

    adds : AddsName t table A to_i to_name at_i added table1 A1
    adds = record {
      handle = o.handle;
      to_row = row;
      in_dir = sets_name s.tree table A c.stands to_i e.handle c.to_live c.to_dir to_name (Some o.handle) (Some row)
          (λ m. insert m to_name o.handle) (comes row (names_of (entry_at A to_i))) time added table1 A1
          (λ n is. node_at-edited_same t e.handle (with_names (λ m. insert m to_name o.handle)) n is)
          (λ r is. row1_e ∙ ap (λ r. Some (touched time r)) (some_same at_e.2.is_row is))
          entry1_e
          (λ m. get-insert_same m to_name o.handle)
          (λ m x ne. get-insert_other m to_name o.handle x ne)
          (row_of-comes_same row (names_of (entry_at A to_i)))
          (λ x ne. row_of-comes_other row (names_of (entry_at A to_i)) x ne);
      was_new = lacks;
      to_index = refl;
      object = stays_as s.tree table A c.stands at_i o.handle c.led.live to_i added table1 A1
          (λ r is. row1_o ∙ ap (λ r. Some (under to_i r)) (some_same at_o.2.is_row is))
          (entry1_other at_i (λ x. to_apart (sym x)))
          (λ _. ((λ i. absurd (c.not_root i)), (λ _. (to_name, row, came_leads, refl))));
      apart = to_apart;
      root = root-edited t e.handle (with_names (λ m. insert m to_name o.handle));
      nodes = λ q ne. node_at-edited_other t e.handle (with_names (λ m. insert m to_name o.handle)) q ne;
      rows = record { size = put.size; others = row1_other };
      by_handle = put.by_handle;
      array = record { size = length-set A to_i came; others = λ j not_e _. entry1_other j not_e };
    }
      where
        came_leads : row_of to_name (names_of (entry_at A1 to_i)) ≡ Some row
        came_leads = ap (λ (z : Entry). row_of to_name (names_of z)) (entry_at-some A1 to_i came entry1_e)
            ∙ row_of-comes_same row (names_of (entry_at A to_i))

    stands1 : Stands (Some added) table1 A1
    stands1 = stands_added s.tree (Some added) table table1 A A1 added to_i at_i to_name c.stands adds refl

    is_added : added ≡ stands1.tree
    is_added = some_same refl stands1.has_tree

    -- THE FIRST NAME GOES

    handles1 : (j : ℕ) → handle_at R' j ≡ handle_at R j
    handles1 j = elim (one_or_not j to_i) as (λ _. handle_at R' j ≡ handle_at R j) [
      | inl x ↦ subst (λ j. handle_at R' j ≡ handle_at R j) (sym x)
          (handle_of_row R' to_i re row1_e ∙ sym (handle_of_row R to_i at_e.0 at_e.2.is_row))
      | inr not_e ↦ elim (one_or_not j at_i) as (λ _. handle_at R' j ≡ handle_at R j) [
        | inl x ↦ subst (λ j. handle_at R' j ≡ handle_at R j) (sym x)
            (handle_of_row R' at_i ro row1_o ∙ sym (handle_of_row R at_i at_o.0 at_o.2.is_row))
        | inr not_o ↦ same_handle R R' j (row1_other j not_e not_o)
      ]
    ]

    live1_d : handle_at R' from_i ≡ Some d.handle
    live1_d = handles1 from_i ∙ c.from_live

    at1_d : (r : ConfEntry) × (n : Node) × IsAt stands1.tree table1 A1 from_i d.handle r n (entry_at A1 from_i)
    at1_d = found (Some added) table1 A1 stands1 from_i d.handle live1_d

    left : Leaves A A1 A2 from_i to_i at_i name row time
    left = leaves A from_i to_i at_i name row time at_d.2.is_entry at_e.2.is_entry c.apart to_apart differ

    dir1 : is_dir (entry_at A1 from_i) ≡ true
    dir1 = elim (one_or_not from_i to_i) as (λ _. is_dir (entry_at A1 from_i) ≡ true) [
      | inl x ↦ subst (λ j. is_dir (entry_at A1 j) ≡ true) (sym x) (ap is_dir (entry_at-some A1 to_i came entry1_e))
      | inr ne ↦ ap is_dir (entry_at-some A1 from_i (entry_at A from_i) (entry1_other from_i ne ∙ at_d.2.is_entry))
          ∙ c.from_dir
    ]

    row2_d : (r : ConfEntry) → slice_get R' from_i ≡ Some r → slice_get R'' from_i ≡ Some (touched time r)
    row2_d r is = ap (λ l. slice_get l from_i) (touch r is) ∙ slice_get-set_same R' from_i (touched time r) r is

    row2_other : (j : ℕ) → j ≢ from_i → slice_get R'' j ≡ slice_get R' j
    row2_other j ne = ap (λ l. slice_get l j) (touch at1_d.0 at1_d.2.is_row)
        ∙ slice_get-set_other R' from_i j (touched time at1_d.0) ne

    row2_o : (r : ConfEntry) → slice_get R' at_i ≡ Some r → slice_get R'' at_i ≡ Some (under to_i r)
    row2_o r is = row2_other at_i (λ x. c.apart (sym x)) ∙ row1_o ∙ ap (λ r. Some (under to_i r)) (some_same row1_o is)

    drops : DropsName stands1.tree table1 A1 from_i name at_i after table2 A2
    drops = record {
      handle = o.handle;
      old_row = led_row.row;
      in_dir = sets_name (Some added) table1 A1 stands1 from_i d.handle live1_d dir1 name None None
          (λ m. remove m name) left.names time after table2 A2
          (λ n is. node_at-edited_same added d.handle (with_names (λ m. remove m name)) n
          (ap (λ t. node_at t d.handle) is_added ∙ is))
          row2_d
          left.entry_now
          (λ m. get-remove_same m name)
          (λ m x ne. get-remove_other m name x ne)
          left.gone
          left.kept;
      was = left.was ∙ led_row.found;
      was_index = is_o;
      object = stays_as (Some added) table1 A1 stands1 at_i o.handle (handles1 at_i ∙ c.led.live) to_i after table2 A2
          row2_o
          left.same
          (λ _. ((λ i. absurd (c.not_root i)), (λ _. (to_name, row, left.leads, refl))));
      apart = c.apart;
      root = root-edited added d.handle (with_names (λ m. remove m name)) ∙ ap (λ (t : Tree). t.root) is_added;
      nodes = λ q ne. node_at-edited_other added d.handle (with_names (λ m. remove m name)) q ne
          ∙ ap (λ t. node_at t q) is_added;
      rows = record {
        size = ap length (touch at1_d.0 at1_d.2.is_row) ∙ length-set R' from_i (touched time at1_d.0);
        others = λ j not_d _. row2_other j not_d;
      };
      by_handle = by_handle;
      array = left.array;
    }

    -- the table counts what it counted
    pub move_tallied : KeepsTally table table1 → KeepsTally table1 table2 → Tallied table2 A2
    move_tallied first second = tallied_kept c.tallied (keeps_both first second)
        (move_same A from_i to_i name led_row.row row time
        (slice_get_within A from_i (entry_at A from_i) at_d.2.is_entry)
        (slice_get_within A to_i (entry_at A to_i) at_e.2.is_entry) c.from_dir c.to_dir c.rising led_row.found lacks)

    -- and they stand for the array in which the name has moved
    pub name_moved : (s' : Option Tree) → s' ≡ Some after → Stands s' table2 A2
    name_moved s' has = stands_dropped (Some added) s' table1 table2 A1 A2 after from_i at_i name stands1 drops has
