-- Steps 1 to 3 and 6: a name of a directory or of the staging directory leads elsewhere, an object is filled, and a null
-- entry has another generation.
use Rattle.std.proofs.Common.{◌≡◌, inl, inr, ℕ, List, Option, Some, IsSomeAnd, slice_get, refl, sym, ap, ◌∙◌, subst}
use Rattle.std.specs.Option.{option_and_then, option_map}
use Rattle.std.specs.FinMap.{get}
use Rattle.server_trait.specs.Tree.{Tree, Node, names_at, names_in, with_names}
use Rattle.server_trait.proofs.TreeLaws.{some_and, is_some_and, some_same, bytes_or_not, one_or_not, names_at-node}
use Rattle.server_trait.specs.declared.bench.ConfEntry.{ConfEntry}
use Rattle.server_trait.specs.declared.bench.ConfTable.{ConfTable}
use Rattle.abs_model.specs.declared.entry.NameRow.{NameRow}
use Rattle.abs_model.specs.declared.entry.Object.TheVariants.{Dir}
use Rattle.abs_model.specs.declared.entry.Entry.{Entry}
use Rattle.abs_model.specs.Objects.{row_of}
use Rattle.conf_map.specs.Stands.{handle_at, Leads, SameNames, IsObject}
use Rattle.conf_map.proofs.Frames.{handle_of_row, same_handle, number_at, names_in-with_names}
use Rattle.conf_map.proofs.LiveRows.{object_holds}
use Rattle.staging.specs.Staged.{RowHolds, Staged}
use Rattle.staging.specs.Steps.{NodeNamed, ListNamed, NamesIn, NamesStaged, Fills, Renews}
use Rattle.staging.proofs.Frames.{staged_kept, Keeps, row_frame, names_frame}

-- ONE NAME

-- the names of a node go on agreeing with a list, where one of both leads elsewhere
pub named_same : (rows : List ConfEntry) (t : Tree) (handle name : List ℕ) (to : Option (List ℕ)) (row : Option NameRow) (t' : Tree) (names names' : List NameRow)
    (k : NodeNamed t handle name to t') (l : ListNamed names name row names') → Leads rows to row → SameNames rows names k.names → SameNames rows names' k.names'
named_same rows t handle name to row t' names names' k l leads same x = elim (bytes_or_not x name) as (λ _. Leads rows (get k.names' x) (row_of x names')) [
  | inl e ↦ subst (λ x. Leads rows (get k.names' x) (row_of x names')) (sym e)
      (subst (λ o. Leads rows o (row_of name names')) (sym k.name_now) (subst (λ o. Leads rows to o) (sym l.here) leads))
  | inr ne ↦ subst (λ o. Leads rows o (row_of x names')) (sym (k.names_now x ne)) (subst (λ o. Leads rows (get k.names x) o) (sym (l.others x ne)) (same x))
]

-- and all numbers stay
pub named_numbers : (t : Tree) (handle name : List ℕ) (to : Option (List ℕ)) (t' : Tree) (k : NodeNamed t handle name to t') (q : List ℕ) → number_at t' q ≡ number_at t q
named_numbers t handle name to t' k q = elim (bytes_or_not q handle) as (λ _. number_at t' q ≡ number_at t q) [
  | inl e ↦ subst (λ q. number_at t' q ≡ number_at t q) (sym e) (ap (option_map (λ (n : Node). n.number)) k.node_now ∙ sym (ap (option_map (λ (n : Node). n.number)) k.is_node))
  | inr ne ↦ ap (option_map (λ (n : Node). n.number)) (k.nodes q ne)
]

pub named_names : (t : Tree) (handle name : List ℕ) (to : Option (List ℕ)) (t' : Tree) (k : NodeNamed t handle name to t') → names_at t' handle ≡ Some k.names'
named_names t handle name to t' k = names_at-node t' handle (with_names (λ _. k.names') k.node) k.node_now ∙ names_in-with_names (λ _. k.names') k.node k.names k.is_dir

-- 1. A DIRECTORY

module _ (t t' : Tree) (area : List ℕ) (table : ConfTable) (A A' : List Entry) (S : List NameRow) (d : ℕ) (name : List ℕ) (to : Option (List ℕ)) (row : Option NameRow)
    (st : Staged t area table A S) (c : NamesIn t table A d name to row t' A') where
  abbrev rows : List ConfEntry
  rows = table.rows.items

  abbrev dir_entry : Entry
  dir_entry = record { generation = c.generation; object = Dir c.attr c.names }

  abbrev dir_entry' : Entry
  dir_entry' = record { generation = c.generation; object = Dir c.attr c.names' }

  keeps : Keeps t t' table table A A' area d
  keeps = record {
    root = c.node.root;
    nodes = λ q _ ne. c.node.nodes q (λ e. ne (c.is_handle ∙ ap Some (sym e)));
    numbers = named_numbers t c.handle name to t' c.node;
    handles = λ j. refl;
    in_step = st.sited.in_step;
    row_size = refl;
    rows = λ j _. refl;
    size = c.array.size;
    array = c.array.others;
  }

  staging : IsSomeAnd (names_at t' area) (SameNames rows S)
  staging =
      let m = some_and (names_at t area) (SameNames rows S) st.sited.staging_has in
      is_some_and (SameNames rows S) (ap (option_and_then (λ (n : Node). names_in n.content)) (c.node.nodes area (λ e. (st.sited.apart d c.handle c.is_handle).1 (sym e))) ∙ m.1) m.2

  here : (r : ConfEntry) (e : Entry) → slice_get rows d ≡ Some r → slice_get A' d ≡ Some e → RowHolds t' rows r e
  here r e is_r is_e =
      let old = st.each d r dir_entry is_r c.is_entry in
      let handle : r.handle ≡ Some c.handle = sym (handle_of_row rows d r is_r) ∙ c.is_handle in
      let holds = object_holds t rows r c.generation (Dir c.attr c.names) c.handle c.node.node old.object handle c.node.is_node in
      let m = some_and (names_in c.node.node.content) (SameNames rows c.names) holds.1 in
      let same : SameNames rows c.names c.node.names = subst (SameNames rows c.names) (some_same m.1 c.node.is_dir) m.2 in
      let now : RowHolds t' rows r dir_entry' = record {
        generation = old.generation;
        object = record {
          handle = c.handle;
          node = with_names (λ _. c.node.names') c.node.node;
          is_handle = handle;
          is_node = c.node.node_now;
          attr = record { number = holds.0.number; mode = holds.0.mode; uid = holds.0.uid; gid = holds.0.gid; atime = holds.0.atime; mtime = holds.0.mtime; ctime = holds.0.ctime };
          content = is_some_and (SameNames rows c.names') (names_in-with_names (λ _. c.node.names') c.node.node c.node.names c.node.is_dir)
              (named_same rows t c.handle name to row t' c.names c.names' c.node c.list c.leads same);
        };
      } in
      subst (λ e. RowHolds t' rows r e) (some_same c.array.here is_e) now

  pub staged_named_in : Staged t' area table A' S
  staged_named_in = staged_kept t t' area table table A A' S S d st keeps staging here

-- 2. THE STAGING DIRECTORY

module _ (t t' : Tree) (area : List ℕ) (table : ConfTable) (A : List Entry) (S S' : List NameRow) (name : List ℕ) (to : Option (List ℕ)) (row : Option NameRow)
    (st : Staged t area table A S) (c : NamesStaged t table area S name to row t' S') where
  staged_names : IsSomeAnd (names_at t' area) (SameNames table.rows.items S')
  staged_names =
      let m = some_and (names_at t area) (SameNames table.rows.items S) st.sited.staging_has in
      let same : SameNames table.rows.items S c.node.names = subst (SameNames table.rows.items S) (some_same m.1 (names_at-node t area c.node.node c.node.is_node ∙ c.node.is_dir)) m.2 in
      is_some_and (SameNames table.rows.items S') (named_names t area name to t' c.node)
      (named_same table.rows.items t area name to row t' S S' c.node c.list c.leads same)

  same_at : (i : ℕ) (r : ConfEntry) (e : Entry) → slice_get table.rows.items i ≡ Some r → slice_get A i ≡ Some e → RowHolds t' table.rows.items r e
  same_at i r e is_r is_e = row_frame t t' table.rows.items table.rows.items r
      (λ h is. c.node.nodes h (st.sited.apart i h (handle_of_row table.rows.items i r is_r ∙ is)).1)
      e (λ x row _ h at. at) (st.each i r e is_r is_e)

  pub staged_named_staging : Staged t' area table A S'
  staged_named_staging = staged_kept t t' area table table A A S S' 0 st (record {
    root = c.node.root;
    nodes = λ q ne _. c.node.nodes q ne;
    numbers = named_numbers t area name to t' c.node;
    handles = λ j. refl;
    in_step = st.sited.in_step;
    row_size = refl;
    rows = λ j _. refl;
    size = refl;
    array = λ j _. refl;
  }) staged_names (same_at 0)

-- 3. AN OBJECT IS FILLED

module _ (t t' : Tree) (area : List ℕ) (table table' : ConfTable) (A A' : List Entry) (S : List NameRow) (i : ℕ)
    (st : Staged t area table A S) (c : Fills t table A i t' table' A') where
  at_i : handle_at table.rows.items i ≡ Some c.handle
  at_i = handle_of_row table.rows.items i c.row c.is_row ∙ c.is_handle

  handles : (j : ℕ) → handle_at table'.rows.items j ≡ handle_at table.rows.items j
  handles j = elim (one_or_not j i) as (λ _. handle_at table'.rows.items j ≡ handle_at table.rows.items j) [
    | inl e ↦ subst (λ j. handle_at table'.rows.items j ≡ handle_at table.rows.items j) (sym e) (handle_of_row table'.rows.items i c.row' c.rows.here ∙ c.same_handle ∙ sym (handle_of_row table.rows.items i c.row c.is_row))
    | inr ne ↦ same_handle table.rows.items table'.rows.items j (c.rows.others j ne)
  ]

  numbers : (q : List ℕ) → number_at t' q ≡ number_at t q
  numbers q = elim (bytes_or_not q c.handle) as (λ _. number_at t' q ≡ number_at t q) [
    | inl e ↦ subst (λ q. number_at t' q ≡ number_at t q) (sym e) (ap (option_map (λ (n : Node). n.number)) c.node_now ∙ ap Some c.number ∙ sym (ap (option_map (λ (n : Node). n.number)) c.is_node))
    | inr ne ↦ ap (option_map (λ (n : Node). n.number)) (c.nodes q ne)
  ]

  pub staged_filled : Staged t' area table' A' S
  staged_filled = staged_kept t t' area table table' A A' S S i st (record {
    root = c.root;
    nodes = λ q _ ne. c.nodes q (λ e. ne (at_i ∙ ap Some (sym e)));
    numbers = numbers;
    handles = handles;
    in_step = c.in_step;
    row_size = c.rows.size;
    rows = c.rows.others;
    size = c.array.size;
    array = c.array.others;
  })
      (let m = some_and (names_at t area) (SameNames table.rows.items S) st.sited.staging_has in
      is_some_and (SameNames table'.rows.items S) (ap (option_and_then (λ (n : Node). names_in n.content)) (c.nodes area (λ e. (st.sited.apart i c.handle at_i).1 (sym e))) ∙ m.1)
      (names_frame table.rows.items table'.rows.items S m.0 (λ x row _ h at. handles row.index ∙ at) m.2))
      (λ r e is_r is_e. subst (λ r. RowHolds t' table'.rows.items r e) (some_same c.rows.here is_r)
      (subst (λ e. RowHolds t' table'.rows.items c.row' e) (some_same c.array.here is_e) (record { generation = c.generation; object = c.object })))

-- 6. A NULL ENTRY

module _ (t : Tree) (area : List ℕ) (table table' : ConfTable) (A A' : List Entry) (S : List NameRow) (i : ℕ) (st : Staged t area table A S) (c : Renews table A i table' A') where
  null_handles : (j : ℕ) → handle_at table'.rows.items j ≡ handle_at table.rows.items j
  null_handles j = elim (one_or_not j i) as (λ _. handle_at table'.rows.items j ≡ handle_at table.rows.items j) [
    | inl e ↦ subst (λ j. handle_at table'.rows.items j ≡ handle_at table.rows.items j) (sym e) (handle_of_row table'.rows.items i c.row' c.rows.here ∙ c.row_null ∙ sym (handle_of_row table.rows.items i c.row c.is_row ∙ c.was_null))
    | inr ne ↦ same_handle table.rows.items table'.rows.items j (c.rows.others j ne)
  ]

  pub staged_renewed : Staged t area table' A' S
  staged_renewed = staged_kept t t area table table' A A' S S i st (record {
    root = refl;
    nodes = λ q _ _. refl;
    numbers = λ q. refl;
    handles = null_handles;
    in_step = c.in_step;
    row_size = c.rows.size;
    rows = c.rows.others;
    size = c.array.size;
    array = c.array.others;
  })
      (let m = some_and (names_at t area) (SameNames table.rows.items S) st.sited.staging_has in
      is_some_and (SameNames table'.rows.items S) m.1 (names_frame table.rows.items table'.rows.items S m.0 (λ x row _ h at. null_handles row.index ∙ at) m.2))
      (λ r e is_r is_e. subst (λ r. RowHolds t table'.rows.items r e) (some_same c.rows.here is_r)
      (subst (λ e. RowHolds t table'.rows.items c.row' e) (some_same c.array.here is_e) (record {
        generation = c.generation;
        object = subst (IsObject t table'.rows.items c.row') (sym c.null) c.row_null;
      })))
