-- What a step leaves as it was: every row but one, with its entry and its node, and where the nodes are.
use Rattle.std.proofs.Common.{◌≡◌, ◌≢◌, ◌⊎◌, inl, inr, ℕ, List, Some, IsSomeAnd, slice_get, length, refl, sym, ap, ◌∙◌, subst}
use Rattle.std.specs.Option.{option_and_then, option_map}
use Rattle.std.specs.FinMap.{get}
use Rattle.server_trait.specs.Tree.{Tree, Node, Content, Names, node_at, names_at, names_in}
use Rattle.server_trait.proofs.TreeLaws.{some_and, is_some_and, some_same, one_or_not}
use Rattle.server_trait.specs.declared.bench.ConfEntry.{ConfEntry}
use Rattle.server_trait.specs.declared.bench.ConfTable.{ConfTable}
use Rattle.abs_model.specs.declared.entry.Attr.{Attr}
use Rattle.abs_model.specs.declared.entry.NameRow.{NameRow}
use Rattle.abs_model.specs.declared.entry.Object.{Object}
use Rattle.abs_model.specs.declared.entry.Object.TheVariants.{Null, File, Dir, Link}
use Rattle.abs_model.specs.declared.entry.Entry.{Entry}
use Rattle.abs_model.specs.Objects.{names_of, row_of}
use Rattle.conf_map.specs.Stands.{handle_at, SameNames, SameContent, Holds, IsObject}
use Rattle.conf_map.specs.Tables.{IsInStep}
use Rattle.conf_map.proofs.Frames.{handle_of_row, leads_frame, number_at, map_some}
use Rattle.staging.specs.Staged.{Sited, RowHolds, Staged}

-- ONE ROW

-- names that led to live rows go on doing so
abbrev pub LedOn : List ConfEntry → List ConfEntry → List NameRow → Type 0
LedOn rows rows' names = (name : List ℕ) (row : NameRow) → row_of name names ≡ Some row → (h : List ℕ) → handle_at rows row.index ≡ Some h → handle_at rows' row.index ≡ Some h

pub names_frame : (rows rows' : List ConfEntry) (names : List NameRow) (m : Names) → LedOn rows rows' names → SameNames rows names m → SameNames rows' names m
names_frame rows rows' names m led same name = leads_frame rows rows' (get m name) (row_of name names) (same name) (led name)

module _ (t t' : Tree) (rows rows' : List ConfEntry) (r : ConfEntry)
    (node : (h : List ℕ) → r.handle ≡ Some h → node_at t' h ≡ node_at t h) where
  holds_frame : (o : Object) (a : Attr) → ((c : Content) → SameContent rows o c → SameContent rows' o c) → Holds t rows r o a → Holds t' rows' r o a
  holds_frame o a content k = record {
    handle = k.handle;
    node = k.node;
    is_handle = k.is_handle;
    is_node = node k.handle k.is_handle ∙ k.is_node;
    attr = k.attr;
    content = content k.node.content k.content;
  }

  object_frame : (g : ℕ) (o : Object) → LedOn rows rows' (names_of (record { generation = g; object = o })) → IsObject t rows r o → IsObject t' rows' r o
  object_frame g Null led k = k
  object_frame g (File a b) led k = holds_frame (File a b) a (λ c s. s) k
  object_frame g (Link a x) led k = holds_frame (Link a x) a (λ c s. s) k
  object_frame g (Dir a names) led k = holds_frame (Dir a names) a (λ c s.
      let m = some_and (names_in c) (SameNames rows names) s in
      is_some_and (SameNames rows' names) m.1 (names_frame rows rows' names m.0 led m.2)) k

  -- a row that a step doesn't touch
  pub row_frame : (e : Entry) → LedOn rows rows' (names_of e) → RowHolds t rows r e → RowHolds t' rows' r e
  row_frame e led k = record { generation = k.generation; object = object_frame e.generation e.object led k.object }

-- WHERE THE NODES ARE

-- a handle is that of one row
pub one_row : (t : Tree) (area : List ℕ) (table : ConfTable) (S : List NameRow) (p : Sited t area table S) (h : List ℕ) (i j : ℕ) → handle_at table.rows.items i ≡ Some h → handle_at table.rows.items j ≡ Some h → i ≡ j
one_row t area table S p h i j at_i at_j = some_same ((p.in_step h i).1 at_i) ((p.in_step h j).1 at_j)

-- the same handles have nodes of the same numbers, and rows have the same handles
pub sited_kept : (t t' : Tree) (area : List ℕ) (table table' : ConfTable) (S S' : List NameRow) (p : Sited t area table S) → t'.root ≡ t.root →
    node_at t' t.root ≡ node_at t t.root → IsSomeAnd (names_at t' area) (SameNames table'.rows.items S') →
    ((q : List ℕ) → number_at t' q ≡ number_at t q) →
    ((j : ℕ) → handle_at table'.rows.items j ≡ handle_at table.rows.items j) → IsInStep table' → Sited t' area table' S'
sited_kept t t' area table table' S S' p root fixed staging numbers handles in_step = record {
  export = p.export;
  root_has = ap (names_at t') root ∙ ap (option_and_then (λ (n : Node). names_in n.content)) fixed ∙ p.root_has;
  staging_has = staging;
  root_apart = λ e. p.root_apart (e ∙ root);
  is_export = handles 0 ∙ p.is_export;
  in_step = in_step;
  apart = λ i h e. let k = p.apart i h (sym (handles i) ∙ e) in ((λ x. k.0 (x ∙ root)), k.1);
  covered = covered;
  numbers = λ a b m n at_a at_b same.
      let x = had a m at_a in
      let y = had b n at_b in
      p.numbers a b x.0 y.0 x.1 y.1 (x.2 ∙ same ∙ sym y.2);
}
  where
    had : (q : List ℕ) (n : Node) → node_at t' q ≡ Some n → (m : Node) × (node_at t q ≡ Some m) × (m.number ≡ n.number)
    had q n at = map_some (λ (n : Node). n.number) (node_at t q) n.number (sym (numbers q) ∙ ap (option_map (λ (n : Node). n.number)) at)

    covered : (q : List ℕ) (n : Node) → node_at t' q ≡ Some n → (q ≡ t'.root) ⊎ ((q ≡ area) ⊎ ((i : ℕ) × (handle_at table'.rows.items i ≡ Some q)))
    covered q n at = let m = had q n at in elim (p.covered q m.0 m.1) as (λ _. (q ≡ t'.root) ⊎ ((q ≡ area) ⊎ ((i : ℕ) × (handle_at table'.rows.items i ≡ Some q)))) [
      | inl e ↦ inl (e ∙ sym root)
      | inr k ↦ inr (elim k as (λ _. (q ≡ area) ⊎ ((i : ℕ) × (handle_at table'.rows.items i ≡ Some q))) [ inl e ↦ inl e | inr x ↦ inr (x.0, handles x.0 ∙ x.1) ])
    ]

-- at most one row, one entry and one node beside staging's change, and all handles and numbers stay
pub record Keeps (t t' : Tree) (table table' : ConfTable) (A A' : List Entry) (staging : List ℕ) (i : ℕ) : Type 0 where
  pub root : t'.root ≡ t.root
  pub nodes : (q : List ℕ) → q ≢ staging → handle_at table.rows.items i ≢ Some q → node_at t' q ≡ node_at t q
  pub numbers : (q : List ℕ) → number_at t' q ≡ number_at t q
  pub handles : (j : ℕ) → handle_at table'.rows.items j ≡ handle_at table.rows.items j
  pub in_step : IsInStep table'
  pub row_size : length table'.rows.items ≡ length table.rows.items
  pub rows : (j : ℕ) → j ≢ i → slice_get table'.rows.items j ≡ slice_get table.rows.items j
  pub size : length A' ≡ length A
  pub array : (j : ℕ) → j ≢ i → slice_get A' j ≡ slice_get A j

pub staged_kept : (t t' : Tree) (area : List ℕ) (table table' : ConfTable) (A A' : List Entry) (S S' : List NameRow) (i : ℕ) (st : Staged t area table A S) →
    Keeps t t' table table' A A' area i → IsSomeAnd (names_at t' area) (SameNames table'.rows.items S') →
    ((r : ConfEntry) (e : Entry) → slice_get table'.rows.items i ≡ Some r → slice_get A' i ≡ Some e → RowHolds t' table'.rows.items r e) → Staged t' area table' A' S'
staged_kept t t' area table table' A A' S S' i st k staging at_i = record {
  sited = sited_kept t t' area table table' S S' st.sited k.root (k.nodes t.root (λ e. st.sited.root_apart (sym e)) (λ at. (st.sited.apart i t.root at).0 refl)) staging k.numbers k.handles k.in_step;
  size = k.row_size ∙ st.size ∙ sym k.size;
  each = λ j r e is_r is_e. elim (one_or_not j i) as (λ _. RowHolds t' table'.rows.items r e) [
    | inl same ↦ subst (λ j. slice_get table'.rows.items j ≡ Some r → slice_get A' j ≡ Some e → RowHolds t' table'.rows.items r e) (sym same) (at_i r e) is_r is_e
    | inr other ↦ beside j r e other (sym (k.rows j other) ∙ is_r) (sym (k.array j other) ∙ is_e)
  ];
}
  where
    beside : (j : ℕ) (r : ConfEntry) (e : Entry) → j ≢ i → slice_get table.rows.items j ≡ Some r → slice_get A j ≡ Some e → RowHolds t' table'.rows.items r e
    beside j r e other is_r is_e = row_frame t t' table.rows.items table'.rows.items r
        (λ h is.
        let at_j : handle_at table.rows.items j ≡ Some h = handle_of_row table.rows.items j r is_r ∙ is in
        k.nodes h (st.sited.apart j h at_j).1 (λ at. other (one_row t area table S st.sited h j i at_j at)))
        e (λ name row _ h at. k.handles row.index ∙ at) (st.each j r e is_r is_e)
