-- What a change leaves as it was: rows, their nodes, and where the nodes are.
use Rattle.std.proofs.Common.{◌≡◌, ◌⊎◌, inl, inr, ℕ, zero, suc, true, List, [], ◌∷◌, Option, Some, None, slice_get, refl, sym, ap, ◌∙◌}
use Rattle.std.specs.Option.{option_and_then, option_map, unwrap_or}
use Rattle.std.specs.Ordering.{nat_cmp}
use Rattle.std.specs.Cmp.Lexicographic.{slice_cmp}
use Rattle.std.specs.BTreeMap as ordered
use Rattle.std.specs.FinMap.{get}
use Rattle.server_trait.specs.Tree.{Tree, Node, Content, BytesOf, TextOf, NamesOf, Names, node_at, names_at, names_in, with_names}
use Rattle.server_trait.proofs.TreeLaws.{some_and, is_some_and, some_none, some_same, and_then_some, slice_get-along}
use Rattle.server_trait.specs.declared.bench.ConfEntry.{ConfEntry}
use Rattle.server_trait.specs.declared.bench.ConfTable.{ConfTable}
use Rattle.abs_model.specs.declared.entry.Attr.{Attr}
use Rattle.abs_model.specs.declared.entry.NameRow.{NameRow}
use Rattle.abs_model.specs.declared.entry.Object.{Object}
use Rattle.abs_model.specs.declared.entry.Object.TheVariants.{Null, File, Dir, Link}
use Rattle.abs_model.specs.declared.entry.Entry.{Entry}
use Rattle.abs_model.specs.Objects.{is_dir, names_of, row_of, attr_of, with_attr}
use Rattle.abs_model.specs.Array.{entry_at, null_entry}
use Rattle.conf_map.specs.Moves.{SameRow}
use Rattle.conf_map.specs.Stands.{handle_at, Placed, Leads, SameNames, SameContent, Holds, IsObject, IsParent, RowIs, Stands}

-- LISTS

pub entry_at-is : (A : List Entry) (i : ℕ) → entry_at A i ≡ unwrap_or (slice_get A i) null_entry
entry_at-is [] i = refl
entry_at-is (e ∷ A) zero = refl
entry_at-is (e ∷ A) (suc i) = entry_at-is A i

pub same_entry : (A B : List Entry) (i : ℕ) → slice_get A i ≡ slice_get B i → entry_at A i ≡ entry_at B i
same_entry A B i e = entry_at-is A i ∙ ap (λ o. unwrap_or o null_entry) e ∙ sym (entry_at-is B i)

pub entry_at-some : (A : List Entry) (i : ℕ) (e : Entry) → slice_get A i ≡ Some e → entry_at A i ≡ e
entry_at-some A i e is = entry_at-is A i ∙ ap (λ o. unwrap_or o null_entry) is

pub handle_of_row : (rows : List ConfEntry) (i : ℕ) (r : ConfEntry) → slice_get rows i ≡ Some r →
    handle_at rows i ≡ r.handle
handle_of_row rows i r is = ap (option_and_then (λ (r : ConfEntry). r.handle)) is

pub same_handle : (rows rows' : List ConfEntry) (i : ℕ) → slice_get rows' i ≡ slice_get rows i →
    handle_at rows' i ≡ handle_at rows i
same_handle rows rows' i e = ap (option_and_then (λ (r : ConfEntry). r.handle)) e

-- ONE ROW

-- names go on leading where they led
pub leads_frame : (rows rows' : List ConfEntry) (x : Option (List ℕ)) (o : Option NameRow) → Leads rows x o →
    ((row : NameRow) → o ≡ Some row → (h : List ℕ) → handle_at rows row.index ≡ Some h →
    handle_at rows' row.index ≡ Some h) → Leads rows' x o
leads_frame rows rows' None None l kept = tt
leads_frame rows rows' (Some h) (Some row) l kept = kept row refl h l
leads_frame rows rows' None (Some row) l kept = absurd l
leads_frame rows rows' (Some h) None l kept = absurd l

module _ (t t' : Tree) (rows rows' : List ConfEntry) (r : ConfEntry)
    (node : (h : List ℕ) → r.handle ≡ Some h → node_at t' h ≡ node_at t h) where
  holds_frame : (o : Object) (a : Attr) → ((c : Content) → SameContent rows o c → SameContent rows' o c) →
      Holds t rows r o a → Holds t' rows' r o a
  holds_frame o a content k = record {
    handle = k.handle;
    node = k.node;
    is_handle = k.is_handle;
    is_node = node k.handle k.is_handle ∙ k.is_node;
    attr = k.attr;
    content = content k.node.content k.content;
  }

  object_frame : (e : Entry) →
      ((name : List ℕ) (row : NameRow) → row_of name (names_of e) ≡ Some row → (h : List ℕ) →
      handle_at rows row.index ≡ Some h → handle_at rows' row.index ≡ Some h)
      → IsObject t rows r e.object → IsObject t' rows' r e.object
  object_frame e = by_object e.object
    where
      by_object : (o : Object) →
          ((name : List ℕ) (row : NameRow) → row_of name (names_of (record { generation = e.generation; object = o }))
          ≡ Some row → (h : List ℕ) → handle_at rows row.index ≡ Some h → handle_at rows' row.index ≡ Some h)
          → IsObject t rows r o → IsObject t' rows' r o
      by_object Null led k = k
      by_object (File a b) led k = holds_frame (File a b) a (λ c s. s) k
      by_object (Link a x) led k = holds_frame (Link a x) a (λ c s. s) k
      by_object (Dir a names) led k = holds_frame (Dir a names) a (λ c s.
          let m = some_and (names_in c) (SameNames rows names) s in
          is_some_and (SameNames rows' names) m.1
          (λ name. leads_frame rows rows' (get m.0 name) (row_of name names) (m.2 name) (led name))) k

  -- a row that a change doesn't touch
  pub row_frame : (A A' : List Entry) (j : ℕ) (e : Entry) →
      ((name : List ℕ) (row : NameRow) → row_of name (names_of e) ≡ Some row → (h : List ℕ) →
      handle_at rows row.index ≡ Some h → handle_at rows' row.index ≡ Some h) →
      (is_dir e ≡ true → (p : ℕ) → IsParent A p j → IsParent A' p j) → RowIs t rows A j r e → RowIs t' rows' A' j r e
  row_frame A A' j e led parent k = record {
    generation = k.generation;
    object = object_frame e led k.object;
    parent = λ d. parent d r.parent (k.parent d);
  }

-- WHERE THE NODES ARE

abbrev pub number_at : Tree → List ℕ → Option ℕ
number_at t q = option_map (λ (n : Node). n.number) (node_at t q)

pub map_some : {A B : Type 0} (f : A → B) (o : Option A) (y : B) → option_map f o ≡ Some y →
    (x : A) × (o ≡ Some x) × (f x ≡ y)
map_some f None y h = absurd (let bad : None ≡ Some y = h in cc)
map_some f (Some x) y h = (x, refl, (let same : f x ≡ y = cc in same))

-- the same handles have nodes of the same numbers
pub placed_kept : (t t' : Tree) (table table' : ConfTable) (p : Placed t table) →
    t'.root ≡ t.root → ((q : List ℕ) → (q ≡ t.root) ⊎ (q ≡ p.staging) → node_at t' q ≡ node_at t q) →
    ((q : List ℕ) → number_at t' q ≡ number_at t q) →
    ((j : ℕ) → handle_at table'.rows.items j ≡ handle_at table.rows.items j) → table'.by_handle ≡ table.by_handle →
    Placed t' table'
placed_kept t t' table table' p root fixed numbers handles by = record {
  export = p.export;
  staging = p.staging;
  root_has = ap (names_at t') root ∙ ap (option_and_then (λ (n : Node). names_in n.content)) (fixed t.root (inl refl))
      ∙ p.root_has;
  staging_has = ap (option_and_then (λ (n : Node). names_in n.content)) (fixed p.staging (inr refl)) ∙ p.staging_has;
  root_apart = λ e. p.root_apart (e ∙ root);
  is_export = handles 0 ∙ p.is_export;
  by_handle = λ h i. (
    (λ e. handles i ∙ (p.by_handle h i).0
        (ap (λ m. ordered.get (slice_cmp nat_cmp) m h) (sym by) ∙ e)),
    (λ e. ap (λ m. ordered.get (slice_cmp nat_cmp) m h) by ∙ (p.by_handle h i).1 (sym (handles i) ∙ e)),
  );
  apart = λ i h e. let k = p.apart i h (sym (handles i) ∙ e) in ((λ x. k.0 (x ∙ root)), k.1);
  covered = covered;
  numbers = λ a b m n at_a at_b same.
      let x = had a m at_a in
      let y = had b n at_b in
      p.numbers a b x.0 y.0 x.1 y.1 (x.2 ∙ same ∙ sym y.2);
}
  where
    had : (q : List ℕ) (n : Node) → node_at t' q ≡ Some n → (m : Node) × (node_at t q ≡ Some m) × (m.number ≡ n.number)
    had q n at = map_some (λ (n : Node). n.number) (node_at t q) n.number
        (sym (numbers q) ∙ ap (option_map (λ (n : Node). n.number)) at)

    covered : (q : List ℕ) (n : Node) → node_at t' q ≡ Some n →
        (q ≡ t'.root) ⊎ ((q ≡ p.staging) ⊎ ((i : ℕ) × (handle_at table'.rows.items i ≡ Some q)))
    covered q n at = let m = had q n at in elim (p.covered q m.0 m.1) as
        (λ _. (q ≡ t'.root) ⊎ ((q ≡ p.staging) ⊎ ((i : ℕ) × (handle_at table'.rows.items i ≡ Some q)))) [
          | inl e ↦ inl (e ∙ sym root)
          | inr k ↦ inr (elim k as
              (λ _. (q ≡ p.staging) ⊎ ((i : ℕ) × (handle_at table'.rows.items i ≡ Some q))) [
                | inl e ↦ inl e
                | inr x ↦ inr
                    (x.0, handles x.0 ∙ x.1)
              ])
        ]

-- OTHER TIMES

abbrev pub timed : ConfEntry → Attr → Attr
timed r a = record a { atime = r.atime; mtime = r.mtime; ctime = r.ctime }

pub names_of-with_attr : (a : Attr) (e : Entry) → names_of (with_attr a e) ≡ names_of e
names_of-with_attr a e = by_object e.object
  where
    by_object : (o : Object) → names_of (with_attr a (record { generation = e.generation; object = o })) ≡ names_of
        (record { generation = e.generation; object = o })
    by_object Null = refl
    by_object (File b x) = refl
    by_object (Link b x) = refl
    by_object (Dir b x) = refl

pub is_dir-with_attr : (a : Attr) (e : Entry) → is_dir (with_attr a e) ≡ is_dir e
is_dir-with_attr a e = by_object e.object
  where
    by_object : (o : Object) → is_dir (with_attr a (record { generation = e.generation; object = o })) ≡ is_dir
        (record { generation = e.generation; object = o })
    by_object Null = refl
    by_object (File b x) = refl
    by_object (Link b x) = refl
    by_object (Dir b x) = refl

module _ (t t' : Tree) (rows rows' : List ConfEntry) (r r' : ConfEntry) (same : SameRow r r')
    (node : (h : List ℕ) → r.handle ≡ Some h → node_at t' h ≡ node_at t h) where
  holds_timed : (o o' : Object) (a : Attr) → ((c : Content) → SameContent rows o c → SameContent rows' o' c) →
      Holds t rows r o a → Holds t' rows' r' o' (timed r' a)
  holds_timed o o' a content k = record {
    handle = k.handle;
    node = k.node;
    is_handle = same.handle ∙ k.is_handle;
    is_node = node k.handle k.is_handle ∙ k.is_node;
    attr = record {
      number = same.number ∙ k.attr.number;
      mode = k.attr.mode;
      uid = k.attr.uid;
      gid = k.attr.gid;
      atime = refl;
      mtime = refl;
      ctime = refl;
    };
    content = content k.node.content k.content;
  }

  -- an object at which only the times are others
  pub object_timed : (e : Entry) →
      ((name : List ℕ) (row : NameRow) → row_of name (names_of e) ≡ Some row → (h : List ℕ) →
      handle_at rows row.index ≡ Some h → handle_at rows' row.index ≡ Some h)
      → IsObject t rows r e.object → IsObject t' rows' r' (with_attr (timed r' (attr_of e)) e).object
  object_timed e = by_object e.object
    where
      by_object : (o : Object) →
          ((name : List ℕ) (row : NameRow) → row_of name (names_of (record { generation = e.generation; object = o }))
          ≡ Some row → (h : List ℕ) → handle_at rows row.index ≡ Some h → handle_at rows' row.index ≡ Some h)
          → IsObject t rows r o →
          IsObject t' rows' r' (with_attr (timed r' (attr_of (record { generation = e.generation; object = o })))
          (record { generation = e.generation; object = o })).object
      by_object Null led k = same.handle ∙ k
      by_object (File a b) led k = holds_timed (File a b) (File (timed r' a) b) a (λ c s. s) k
      by_object (Link a x) led k = holds_timed (Link a x) (Link (timed r' a) x) a (λ c s. s) k
      by_object (Dir a names) led k = holds_timed (Dir a names) (Dir (timed r' a) names) a (λ c s.
          let m = some_and (names_in c) (SameNames rows names) s in
          is_some_and (SameNames rows' names) m.1
          (λ name. leads_frame rows rows' (get m.0 name) (row_of name names) (m.2 name) (led name))) k

-- a row with a handle has a node
pub object_node : (t : Tree) (rows : List ConfEntry) (r : ConfEntry) (o : Object) → IsObject t rows r o → (h : List ℕ) →
    r.handle ≡ Some h → (n : Node) × (node_at t h ≡ Some n)
object_node t rows r Null k h is = absurd (some_none is k)
object_node t rows r (File a b) k h is = (k.node, ap (node_at t) (some_same is k.is_handle) ∙ k.is_node)
object_node t rows r (Link a b) k h is = (k.node, ap (node_at t) (some_same is k.is_handle) ∙ k.is_node)
object_node t rows r (Dir a b) k h is = (k.node, ap (node_at t) (some_same is k.is_handle) ∙ k.is_node)

pub names_in-with_names : (f : Names → Names) (n : Node) (m : Names) → names_in n.content ≡ Some m →
    names_in (with_names f n).content ≡ Some (f m)
names_in-with_names f n m = by_content n.content
  where
    by_content : (c : Content) → names_in c ≡ Some m → names_in (with_names f (record n { content = c })).content ≡ Some
        (f m)
    by_content (BytesOf b) is = absurd (let bad : None ≡ Some m = is in cc)
    by_content (TextOf x) is = absurd (let bad : None ≡ Some m = is in cc)
    by_content (NamesOf k) is = ap (λ o. Some (f (unwrap_or o m))) is

-- a row's handle is that of a node
pub handle_node : (s : Option Tree) (table : ConfTable) (A : List Entry) (st : Stands s table A) (k : ℕ) (q : List ℕ) →
    handle_at table.rows.items k ≡ Some q → (n : Node) × (node_at st.tree q ≡ Some n)
handle_node s table A st k q is =
    let r = and_then_some (λ (r : ConfEntry). r.handle) (slice_get table.rows.items k) q is in
    let e = slice_get-along table.rows.items A k r.0 st.size r.1 in
    object_node st.tree table.rows.items r.0 e.0.object (st.each k r.0 e.0 r.1 e.1).object q r.2
