-- A tree and its table stand for one valid array.
use Rattle.std.proofs.Common.{◌≡◌, ℕ, suc, arith, List, [], ◌∷◌, true, Option, Some, None, length, slice_get, refl, sym, ap, ◌∙◌, subst}
use Rattle.std.specs.List.{list_all}
use Rattle.std.specs.FinMap.{get}
use Rattle.std.proofs.lemmas.Bool.{and_parts, eqb-true}
use Rattle.std.proofs.lemmas.Option.{slice_get_within}
use Rattle.server_trait.specs.Tree.{Tree, Node, Names, node_at, names_in, bytes_in, text_in}
use Rattle.server_trait.proofs.TreeLaws.{some_and, some_none, some_same, and_then_some, slice_get-along}
use Rattle.server_trait.specs.declared.bench.ConfEntry.{ConfEntry}
use Rattle.server_trait.specs.declared.bench.ConfTable.{ConfTable}
use Rattle.nfs2_types.specs.declared.Limits.{Limits}
use Rattle.abs_model.specs.declared.entry.Attr.{Attr}
use Rattle.abs_model.specs.declared.entry.NameRow.{NameRow}
use Rattle.abs_model.specs.declared.entry.Object.{Object}
use Rattle.abs_model.specs.declared.entry.Object.TheVariants.{Null, File, Dir, Link}
use Rattle.abs_model.specs.declared.entry.Entry.{Entry}
use Rattle.abs_model.specs.Objects.{names_of, row_of}
use Rattle.abs_model.specs.Array.{entry_at}
use Rattle.abs_model.specs.Valid.{Valid, entry_fits, is_rising, leads}
use Rattle.conf_map.specs.Stands.{handle_at, Leads, SameAttr, SameNames, Holds, IsObject, Stands}
use Rattle.conf_map.proofs.Frames.{entry_at-some}
use Rattle.conf_map.proofs.Kept.{one_row}
use Rattle.conf_map.proofs.RisingRows.{same_rows, row_name, row_passes}

-- RECORDS OF EQUAL FIELDS

same_attr : (r : ConfEntry) (n : Node) (a b : Attr) → SameAttr a r n → SameAttr b r n → a ≡ b
same_attr r n a b p q =
    ap (λ x. record a { mode = x }) (sym p.mode ∙ q.mode) ∙
    ap (λ x. record a { mode = b.mode; uid = x }) (sym p.uid ∙ q.uid) ∙
    ap (λ x. record a { mode = b.mode; uid = b.uid; gid = x }) (sym p.gid ∙ q.gid) ∙
    ap (λ x. record b { atime = x; mtime = a.mtime; ctime = a.ctime }) (sym p.atime ∙ q.atime) ∙
    ap (λ x. record b { mtime = x; ctime = a.ctime }) (sym p.mtime ∙ q.mtime) ∙
    ap (λ x. record b { ctime = x }) (sym p.ctime ∙ q.ctime)

same_row : (r s : NameRow) → r.name ≡ s.name → r.index ≡ s.index → r.generation ≡ s.generation → r ≡ s
same_row r s name index generation =
    ap (λ x. record r { name = x }) name ∙ ap (λ x. record r { name = s.name; index = x }) index
    ∙ ap (λ x. record s { generation = x }) generation

same_entry : (a b : Entry) → a.generation ≡ b.generation → a.object ≡ b.object → a ≡ b
same_entry a b generation object = ap (λ x. record a { generation = x }) generation
    ∙ ap (λ x. record b { object = x }) object

same_lists : {X : Type 0} (xs ys : List X) → length xs ≡ length ys →
    ((i : ℕ) (x y : X) → slice_get xs i ≡ Some x → slice_get ys i ≡ Some y → x ≡ y) → xs ≡ ys
same_lists [] [] size same = refl
same_lists [] (y ∷ ys) size same = absurd (omega arith)
same_lists (x ∷ xs) [] size same = absurd (omega arith)
same_lists (x ∷ xs) (y ∷ ys) size same = ap (λ z. z ∷ xs) (same 0 x y refl refl)
    ∙ ap (λ zs. y ∷ zs) (same_lists xs ys (omega arith) (λ i x y a b. same (suc i) x y a b))

-- WHAT A VALID ARRAY SAYS OF ITS NAMES

rising : (limits : Limits) (A : List Entry) → Valid limits A → (i : ℕ) (e : Entry) → slice_get A i ≡ Some e →
    is_rising (names_of e) ≡ true
rising limits A v i e is =
    let fits : entry_fits e ≡ true = ap entry_fits (sym (entry_at-some A i e is))
    ∙ v.fits i (slice_get_within A i e is) in
    let one = and_parts _ _ fits in
    let two = and_parts _ _ one.0 in
    (and_parts _ _ two.0).1

-- a name has the generation of what it leads to
led_generation : (limits : Limits) (A : List Entry) → Valid limits A →
    (d : ℕ) (e : Entry) (name : List ℕ) (row : NameRow) → slice_get A d ≡ Some e → row_of name (names_of e) ≡ Some row →
    (entry_at A row.index).generation ≡ row.generation
led_generation limits A v d e name row is has =
    let all : list_all (leads A) (names_of e) ≡ true = ap (λ e. list_all (leads A) (names_of e))
    (sym (entry_at-some A d e is)) ∙ v.lead d (slice_get_within A d e is) in
    let passes = row_passes (leads A) name (names_of e) row all has in
    eqb-true _ _ (and_parts _ _ (and_parts _ _ passes).1).1

-- ONE ROW HOLDS ONE OBJECT

same_node : (t : Tree) (rows : List ConfEntry) (r : ConfEntry) (o p : Object) (a b : Attr) (k : Holds t rows r o a)
    (l : Holds t rows r p b) → k.node ≡ l.node
same_node t rows r o p a b k l = some_same
    (sym (ap (node_at t) (some_same k.is_handle l.is_handle)) ∙ k.is_node) l.is_node

held_attr : (t : Tree) (rows : List ConfEntry) (r : ConfEntry) (o p : Object) (a b : Attr) → Holds t rows r o a →
    Holds t rows r p b → a ≡ b
held_attr t rows r o p a b k l = same_attr r l.node a b
    (subst (SameAttr a r) (same_node t rows r o p a b k l) k.attr) l.attr

held_content : (t : Tree) (rows : List ConfEntry) (r : ConfEntry) (o p : Object) (a b : Attr) (k : Holds t rows r o a)
    (l : Holds t rows r p b) → k.node.content ≡ l.node.content
held_content t rows r o p a b k l = ap (λ (n : Node). n.content) (same_node t rows r o p a b k l)

-- rows to which one name of a node leads
leads_same : (rows : List ConfEntry) (x : Option (List ℕ)) (o p : Option NameRow) → Leads rows x o → Leads rows x p →
    ((h : List ℕ) (r s : NameRow) → o ≡ Some r → p ≡ Some s → handle_at rows r.index ≡ Some h →
    handle_at rows s.index ≡ Some h → r ≡ s) → o ≡ p
leads_same rows None None None k l same = refl
leads_same rows None (Some r) p k l same = absurd k
leads_same rows None None (Some s) k l same = absurd l
leads_same rows (Some h) None p k l same = absurd k
leads_same rows (Some h) (Some r) None k l same = absurd l
leads_same rows (Some h) (Some r) (Some s) k l same = ap Some (same h r s refl refl k l)

module _ (t : Tree) (rows : List ConfEntry) (r : ConfEntry) where
  live : (o : Object) (a : Attr) → r.handle ≡ None → Holds t rows r o a → ⊥
  live o a none k = some_none k.is_handle none

  -- names are the same where their look-ups lead to the same rows
  same_object : (o p : Object) → IsObject t rows r o → IsObject t rows r p →
      ((a b : Attr) (names others : List NameRow) (m : Names) → o ≡ Dir a names → p ≡ Dir b others →
      SameNames rows names m → SameNames rows others m → names ≡ others) → o ≡ p
  same_object Null Null k l same = refl
  same_object Null (File b y) k l same = absurd (live _ _ k l)
  same_object Null (Dir b y) k l same = absurd (live _ _ k l)
  same_object Null (Link b y) k l same = absurd (live _ _ k l)
  same_object (File a x) Null k l same = absurd (live _ _ l k)
  same_object (Dir a x) Null k l same = absurd (live _ _ l k)
  same_object (Link a x) Null k l same = absurd (live _ _ l k)
  same_object (File a x) (File b y) k l same =
      let e = held_content t rows r (File a x) (File b y) a b k l in
      let bytes : x ≡ y = some_same (ap bytes_in k.content) (ap bytes_in (e ∙ l.content)) in
      ap (λ a. File a x) (held_attr t rows r (File a x) (File b y) a b k l) ∙ ap (File b) bytes
  same_object (Link a x) (Link b y) k l same =
      let e = held_content t rows r (Link a x) (Link b y) a b k l in
      let text : x ≡ y = some_same (ap text_in k.content) (ap text_in (e ∙ l.content)) in
      ap (λ a. Link a x) (held_attr t rows r (Link a x) (Link b y) a b k l) ∙ ap (Link b) text
  same_object (Dir a x) (Dir b y) k l same =
      let e = held_content t rows r (Dir a x) (Dir b y) a b k l in
      let m = some_and (names_in k.node.content) (SameNames rows x) k.content in
      let n = some_and (names_in l.node.content) (SameNames rows y) l.content in
      let names : x ≡ y = same a b x y m.0 refl refl m.2
      (subst (SameNames rows y) (some_same (ap names_in e ∙ n.1) m.1) n.2) in
      ap (λ a. Dir a x) (held_attr t rows r (Dir a x) (Dir b y) a b k l) ∙ ap (Dir b) names
  same_object (File a x) (Link b y) k l same = absurd
      (some_none (ap bytes_in k.content)
      (ap bytes_in (held_content t rows r (File a x) (Link b y) a b k l ∙ l.content)))
  same_object (Link a x) (File b y) k l same = absurd
      (some_none (ap text_in k.content) (ap text_in (held_content t rows r (Link a x) (File b y) a b k l ∙ l.content)))
  same_object (File a x) (Dir b y) k l same =
      let n = some_and (names_in l.node.content) (SameNames rows y) l.content in
      absurd (some_none (ap names_in (held_content t rows r (File a x) (Dir b y) a b k l) ∙ n.1)
      (ap names_in k.content))
  same_object (Link a x) (Dir b y) k l same =
      let n = some_and (names_in l.node.content) (SameNames rows y) l.content in
      absurd (some_none (ap names_in (held_content t rows r (Link a x) (Dir b y) a b k l) ∙ n.1)
      (ap names_in k.content))
  same_object (Dir a x) (File b y) k l same =
      let n = some_and (names_in k.node.content) (SameNames rows x) k.content in
      absurd (some_none n.1 (ap names_in (held_content t rows r (Dir a x) (File b y) a b k l ∙ l.content)))
  same_object (Dir a x) (Link b y) k l same =
      let n = some_and (names_in k.node.content) (SameNames rows x) k.content in
      absurd (some_none n.1 (ap names_in (held_content t rows r (Dir a x) (Link b y) a b k l ∙ l.content)))

-- ONE ARRAY

module _ (s : Option Tree) (table : ConfTable) (limits others : Limits) (A B : List Entry) (st : Stands s table A)
    (su : Stands s table B) (v : Valid limits A) (w : Valid others B) where
  abbrev R : List ConfEntry
  R = table.rows.items

  one_tree : su.tree ≡ st.tree
  one_tree = some_same su.has_tree st.has_tree

  -- two rows of names that lead to one handle
  one_name : (d : ℕ) (a b : Entry) (name : List ℕ) (x y : NameRow) → slice_get A d ≡ Some a → slice_get B d ≡ Some b →
      row_of name (names_of a) ≡ Some x → row_of name (names_of b) ≡ Some y →
      (h : List ℕ) → handle_at R x.index ≡ Some h → handle_at R y.index ≡ Some h → x ≡ y
  one_name d a b name x y is_a is_b has_x has_y h at_x at_y =
      let index : x.index ≡ y.index = one_row st.tree table st.placed h x.index y.index at_x at_y in
      let r = and_then_some (λ (r : ConfEntry). r.handle) (slice_get R x.index) h at_x in
      let e = slice_get-along R A x.index r.0 st.size r.1 in
      let f = slice_get-along R B x.index r.0 su.size r.1 in
      let led_x = led_generation limits A v d a name x is_a has_x in
      let led_y = led_generation others B w d b name y is_b has_y in
      let gen_a = ap (λ (e : Entry). e.generation) (entry_at-some A x.index e.0 e.1) in
      let gen_b = ap (λ (e : Entry). e.generation) (entry_at-some B x.index f.0 f.1) in
      same_row x y (row_name name (names_of a) x has_x ∙ sym (row_name name (names_of b) y has_y)) index
      (sym led_x ∙ gen_a ∙ sym (st.each x.index r.0 e.0 r.1 e.1).generation
      ∙ (su.each x.index r.0 f.0 r.1 f.1).generation ∙ sym gen_b ∙ ap (λ i. (entry_at B i).generation) index
      ∙ led_y)

  one_object : (i : ℕ) (r : ConfEntry) (a b : Entry) → slice_get R i ≡ Some r → slice_get A i ≡ Some a →
      slice_get B i ≡ Some b → a.object ≡ b.object
  one_object i r a b is_r is_a is_b =
      same_object st.tree R r a.object b.object (st.each i r a is_r is_a).object
      (subst (λ t. IsObject t R r b.object) one_tree (su.each i r b is_r is_b).object)
      (λ p q names others_names m is_p is_q led_p led_q.
      let names_a : names_of a ≡ names = ap (λ o. names_of (record { generation = a.generation; object = o })) is_p in
      let names_b : names_of b ≡ others_names = ap
      (λ o. names_of (record { generation = b.generation; object = o })) is_q in
      same_rows names others_names
      (ap is_rising (sym names_a) ∙ rising limits A v i a is_a)
      (ap is_rising (sym names_b) ∙ rising others B w i b is_b)
      (λ name. leads_same R (get m name) (row_of name names) (row_of name others_names) (led_p name) (led_q name)
      (λ h x y has_x has_y. one_name i a b name x y is_a is_b (ap (row_of name) names_a ∙ has_x)
      (ap (row_of name) names_b ∙ has_y) h)))

  one_entry : (i : ℕ) (a b : Entry) → slice_get A i ≡ Some a → slice_get B i ≡ Some b → a ≡ b
  one_entry i a b is_a is_b =
      let r = slice_get-along A R i a (sym st.size) is_a in
      same_entry a b (sym (st.each i r.0 a r.1 is_a).generation ∙ (su.each i r.0 b r.1 is_b).generation)
      (one_object i r.0 a b r.1 is_a is_b)

  pub one_array : A ≡ B
  one_array = same_lists A B (sym st.size ∙ su.size) one_entry
