-- A staged object comes under a name.
use Rattle.std.proofs.Common.{◌≡◌, ◌≢◌, ℕ, List, true, false, Option, Some, None, IsSomeAnd, slice_get, refl, sym, ap, ◌∙◌, subst}
use Rattle.std.specs.Prelude.{bytes_eq}
use Rattle.std.specs.Option.{option_and_then}
use Rattle.std.specs.FinMap.{get}
use Rattle.std.proofs.lemmas.List.{length-set}
use Rattle.std.proofs.lemmas.Slice.Eq.{bytes_eq-Decides}
use Rattle.server_trait.specs.Tree.{Tree, Names, names_at, names_in, target, named, unnamed}
use Rattle.server_trait.specs.Step.{LacksName}
use Rattle.server_trait.proofs.TreeLaws.{some_and, is_some_and, some_none, some_same, and_then_some, slice_get-along, names_at-node}
use Rattle.server_trait.specs.declared.bench.ConfEntry.{ConfEntry}
use Rattle.server_trait.specs.declared.bench.ConfTable.{ConfTable}
use Rattle.abs_model.specs.declared.entry.Attr.{Attr}
use Rattle.abs_model.specs.declared.entry.NameRow.{NameRow}
use Rattle.abs_model.specs.declared.entry.Object.{Object}
use Rattle.abs_model.specs.declared.entry.Object.TheVariants.{Null, File, Dir, Link}
use Rattle.abs_model.specs.declared.entry.Entry.{Entry}
use Rattle.abs_model.specs.Objects.{is_dir, names_of, row_of, placed, without}
use Rattle.abs_model.specs.Array.{entry_at}
use Rattle.abs_model.proofs.Parents.{found_leads}
use Rattle.abs_model.proofs.RowLists.{row_of-without_same, row_of-without_none, row_of-without_other}
use Rattle.conf_map.specs.Stands.{handle_at, Leads, SameNames}
use Rattle.conf_map.specs.Moves.{IsSetAt}
use Rattle.conf_map.specs.declared.table.Located.{Located}
use Rattle.conf_map.proofs.Frames.{entry_at-some}
use Rattle.conf_map.proofs.InStep.{slice_get-set_same, slice_get-set_other}
use Rattle.conf_map.proofs.LiveRows.{object_holds}
use Rattle.conf_map.proofs.PlacedRows.{row_of-placed_same, row_of-placed_other}
use Rattle.staging.specs.Forms.{with_names}
use Rattle.staging.specs.Place.{CanPlace, put_in}
use Rattle.staging.specs.Staged.{Staged, StagedAt}
use Rattle.staging.specs.Steps.{ListNamed, CanMove, MovedTo}
use Rattle.staging.proofs.Made.{handle_node}
use Rattle.staging.proofs.Renames.{IsDirAt, staged_out, not_out_of_staging}

-- LISTS

pub not_eq : (a b : List ℕ) → a ≢ b → bytes_eq a b ≡ false
not_eq a b ne = elim (bytes_eq a b) as (λ x. bytes_eq a b ≡ x → x ≡ false) [
  | true ↦ λ t. absurd (ne ((bytes_eq-Decides a b).0 t))
  | false ↦ λ _. refl
] refl

pub list_with : (row : NameRow) (rows : List NameRow) → row_of row.name rows ≡ None → ListNamed rows row.name (Some row) (placed row rows)
list_with row rows none = record { here = row_of-placed_same row rows none; others = λ x ne. row_of-placed_other row rows x ne }

pub list_without : (name : List ℕ) (rows : List NameRow) → ListNamed rows name None (without name rows)
list_without name rows = record { here = row_of-without_same name rows; others = λ x ne. by_row x ne (row_of x rows) refl }
  where
    by_row : (x : List ℕ) → x ≢ name → (o : Option NameRow) → row_of x rows ≡ o → row_of x (without name rows) ≡ row_of x rows
    by_row x ne None is = row_of-without_none x name rows is ∙ sym is
    by_row x ne (Some r) is = row_of-without_other x name rows r (not_eq x name ne) is ∙ sym is

-- A DIRECTORY OF THE ARRAY

-- what is a directory has a list of names
pub record Listed (e : Entry) : Type 0 where
  pub attr : Attr
  pub names : List NameRow
  pub is : e ≡ record { generation = e.generation; object = Dir attr names }

pub dir_lists : (e : Entry) → is_dir e ≡ true → Listed e
dir_lists e dir = by_object e.object dir
  where
    by_object : (o : Object) → is_dir (record { generation = e.generation; object = o }) ≡ true → Listed (record { generation = e.generation; object = o })
    by_object Null dir = absurd (let bad : false ≡ true = dir in cc)
    by_object (File a b) dir = absurd (let bad : false ≡ true = dir in cc)
    by_object (Link a b) dir = absurd (let bad : false ≡ true = dir in cc)
    by_object (Dir a names) dir = record { attr = a; names = names; is = refl }

module _ (t : Tree) (area : List ℕ) (table : ConfTable) (A : List Entry) (S : List NameRow) (st : Staged t area table A S) (d : Located) (live : handle_at table.rows.items d.index ≡ Some d.handle) (dir : is_dir (entry_at A d.index) ≡ true) where
  pub at_entry : slice_get A d.index ≡ Some (entry_at A d.index)
  at_entry =
      let r = and_then_some (λ (r : ConfEntry). r.handle) (slice_get table.rows.items d.index) d.handle live in
      let e = slice_get-along table.rows.items A d.index r.0 st.size r.1 in
      e.1 ∙ ap Some (sym (entry_at-some A d.index e.0 e.1))

  -- its node, and its names there
  pub dir_at : IsDirAt t table A d.index d.handle
  dir_at =
      let r = and_then_some (λ (r : ConfEntry). r.handle) (slice_get table.rows.items d.index) d.handle live in
      let k = dir_lists (entry_at A d.index) dir in
      let n = handle_node t area table A S st d.index d.handle live in
      let is_entry : slice_get A d.index ≡ Some (record { generation = (entry_at A d.index).generation; object = Dir k.attr k.names }) = at_entry ∙ ap Some k.is in
      let holds = object_holds t table.rows.items r.0 (entry_at A d.index).generation (Dir k.attr k.names) d.handle n.0 (st.each d.index r.0 (record { generation = (entry_at A d.index).generation; object = Dir k.attr k.names }) r.1 is_entry).object r.2 n.1 in
      let m = some_and (names_in n.0.content) (SameNames table.rows.items k.names) holds.1 in
      record { node = n.0; node_names = m.0; generation = (entry_at A d.index).generation; attr = k.attr; names = k.names; is_handle = live; is_node = n.1; is_dir = m.1; is_entry = is_entry }

-- ONE NAME

leads_some : (rows : List ConfEntry) (x : Option (List ℕ)) (o : Option NameRow) (row : NameRow) → o ≡ Some row → Leads rows x o → (h : List ℕ) × (x ≡ Some h) × (handle_at rows row.index ≡ Some h)
leads_some rows None None row is l = absurd (some_none is refl)
leads_some rows (Some h) None row is l = absurd l
leads_some rows None (Some r) row is l = absurd l
leads_some rows (Some h) (Some r) row is l = (h, refl, ap (λ (r : NameRow). handle_at rows r.index) (sym (some_same refl is)) ∙ l)

pub leads_none : (rows : List ConfEntry) (x : Option (List ℕ)) (o : Option NameRow) → o ≡ None → Leads rows x o → x ≡ None
leads_none rows None o is l = refl
leads_none rows (Some h) None is l = absurd l
leads_none rows (Some h) (Some r) is l = absurd (some_none refl is)

module _ (t : Tree) (area : List ℕ) (table : ConfTable) (A C : List Entry) (S : List NameRow) (staged_name : List ℕ) (d : Located) (row : NameRow) (c : CanPlace t area table A C S staged_name d row) where
  abbrev st : Staged t area table A S
  st = c.staged

  abbrev rows : List ConfEntry
  rows = table.rows.items

  dir : IsDirAt t table A d.index d.handle
  dir = dir_at t area table A S st d c.live c.is_dir

  there : (h : List ℕ) × (target t area staged_name ≡ Some h) × (handle_at rows row.index ≡ Some h)
  there =
      let m = some_and (names_at t area) (SameNames rows S) st.sited.staging_has in
      let l = leads_some rows (get m.0 staged_name) (row_of staged_name S) c.staged_row c.stands_there (m.2 staged_name) in
      (l.0, ap (option_and_then (λ (m : Names). get m staged_name)) m.1 ∙ l.1, ap (handle_at rows) (sym c.same_index) ∙ l.2)

  lacks : LacksName t d.handle row.name
  lacks =
      let r = and_then_some (λ (r : ConfEntry). r.handle) (slice_get rows d.index) d.handle c.live in
      let k = dir_lists (entry_at A d.index) c.is_dir in
      let n = handle_node t area table A S st d.index d.handle c.live in
      let is_entry : slice_get A d.index ≡ Some (record { generation = (entry_at A d.index).generation; object = Dir k.attr k.names }) = at_entry t area table A S st d c.live c.is_dir ∙ ap Some k.is in
      let holds = object_holds t rows r.0 (entry_at A d.index).generation (Dir k.attr k.names) d.handle n.0 (st.each d.index r.0 (record { generation = (entry_at A d.index).generation; object = Dir k.attr k.names }) r.1 is_entry).object r.2 n.1 in
      let m = some_and (names_in n.0.content) (SameNames rows k.names) holds.1 in
      is_some_and (λ m. get m row.name ≡ None) (names_at-node t d.handle n.0 n.1 ∙ m.1)
      (leads_none rows (get m.0 row.name) (row_of row.name k.names) (ap (row_of row.name) (sym (ap names_of k.is)) ∙ c.lacks) (m.2 row.name))

  can : CanMove t area staged_name d.handle row.name
  can = record {
    moved = there.0;
    leads = there.1;
    free = lacks;
    not_below = not_out_of_staging t area table A S st row.index there.0 there.2 c.limits C c.valid c.among d.index d.handle c.live
        (found_leads row.name (names_of (entry_at C d.index)) row c.has);
  }

  -- the server can only fail
  pub can_move : CanMove t area staged_name d.handle row.name
  can_move = can

  entry_is : entry_at A d.index ≡ record { generation = dir.generation; object = Dir dir.attr dir.names }
  entry_is = some_same (at_entry t area table A S st d c.live c.is_dir) dir.is_entry

  entry_now : with_names (placed row (names_of (entry_at A d.index))) (entry_at A d.index) ≡ record { generation = dir.generation; object = Dir dir.attr (placed row dir.names) }
  entry_now = ap (λ e. with_names (placed row (names_of e)) e) entry_is

  array : IsSetAt d.index (record { generation = dir.generation; object = Dir dir.attr (placed row dir.names) }) A (put_in A d.index row)
  array = record {
    size = length-set A d.index (with_names (placed row (names_of (entry_at A d.index))) (entry_at A d.index));
    here = slice_get-set_same A d.index (with_names (placed row (names_of (entry_at A d.index))) (entry_at A d.index)) (entry_at A d.index) (at_entry t area table A S st d c.live c.is_dir) ∙ ap Some entry_now;
    others = λ j ne. slice_get-set_other A d.index j (with_names (placed row (names_of (entry_at A d.index))) (entry_at A d.index)) ne;
  }

  -- and what it leaves stands for the array with the name
  pub placed_there : (after : Option Tree) → MovedTo t area staged_name d.handle row.name after → StagedAt after area table (put_in A d.index row) (without staged_name S)
  placed_there after moved =
      let x = some_and (target t area staged_name) (λ h. after ≡ Some (named (unnamed t area staged_name) d.handle row.name h)) moved in
      is_some_and (λ t. Staged t area table (put_in A d.index row) (without staged_name S)) (x.2 ∙ ap (λ h. Some (named (unnamed t area staged_name) d.handle row.name h)) (some_same x.1 there.1))
      (staged_out t area table A (put_in A d.index row) S (without staged_name S) st d.index row.index d.handle there.0 row.name staged_name row dir (placed row dir.names) array there.2 refl
      (list_with row dir.names (ap (row_of row.name) (sym (ap names_of entry_is)) ∙ c.lacks)) (list_without staged_name S))

-- the same, of what a server has, and by the name as it was handed in
pub can_move_here : (s : Option Tree) (area : List ℕ) (table : ConfTable) (staged_name : List ℕ) (d : Located) (row : NameRow) (name : List ℕ) → name ≡ row.name →
    IsSomeAnd s (λ t. (A : List Entry) × (C : List Entry) × (S : List NameRow) × CanPlace t area table A C S staged_name d row) → IsSomeAnd s (λ t. CanMove t area staged_name d.handle name)
can_move_here s area table staged_name d row name is placing =
    let k = some_and s (λ t. (A : List Entry) × (C : List Entry) × (S : List NameRow) × CanPlace t area table A C S staged_name d row) placing in
    is_some_and (λ t. CanMove t area staged_name d.handle name) k.1 (subst (CanMove k.0 area staged_name d.handle) (sym is) (can_move k.0 area table k.2.0 k.2.1 k.2.2 staged_name d row k.2.3))

pub placed_here : (t : Tree) (area : List ℕ) (table : ConfTable) (A C : List Entry) (S : List NameRow) (staged_name : List ℕ) (d : Located) (row : NameRow) → CanPlace t area table A C S staged_name d row →
    (after : Option Tree) (name : List ℕ) → name ≡ row.name → MovedTo t area staged_name d.handle name after → StagedAt after area table (put_in A d.index row) (without staged_name S)
placed_here t area table A C S staged_name d row placing after name is moved =
    placed_there t area table A C S staged_name d row placing after (subst (λ name. MovedTo t area staged_name d.handle name after) is moved)
