-- The names of a whole store, by their paths.
use Rattle.std.proofs.Common.{◌⊎◌, inl, inr, ◌≡◌, ℕ, true, false, cond, List, [], ◌∷◌, ◌++◌, length, Option, Some, None, IsSome, option_map, is_some, refl, sym, ap, ◌∙◌, subst}
use Rattle.std.specs.Ordering.{nat_cmp, is_eq}
use Rattle.std.specs.Cmp.Lexicographic.{slice_cmp, nat_list_cmp_total}
use Rattle.std.specs.FinMap.{find, get, entries, get-from_entries}
use Rattle.std.proofs.lemmas.List.{append_cancel_left}
use Rattle.slab.specs.Slab.{get as slot}
use Rattle.server_trait.specs.Tree.{ByBytes}
use Rattle.server_trait.proofs.TreeLaws.{same-keys, same-key_refl, same_answers, some_same, some_none, and_then_some, and_then}
use Rattle.server_trait.proofs.SoftLaws.{some_of}
use Rattle.path_store.specs.Stored.{joined}
use Rattle.path_store.specs.Placed.{Keys, Rows, Dirs, row_at, has_slash, last_part, with_row, named_rows, names_in, IsTree, IsKeyed}
use Rattle.path_store.specs.Walks.{IsAmong}
use Rattle.path_store.specs.declared.row.PathRow.{PathRow}
use Rattle.path_store.proofs.AmongLaws.{entry_got, got_entry}
use Rattle.path_store.proofs.NameLaws.{apart_keys}
use Rattle.path_store.proofs.SlashLaws.{joined_same, name_no_slash, not_nil}

-- WHAT IS THERE OR NOT

pub some_is : {A : Type 0} {x : A} (o : Option A) → o ≡ Some x → IsSome o
some_is o e = ap is_some e

pub none_or_some : {A : Type 0} (o : Option A) → (o ≡ None) ⊎ ((x : A) × (o ≡ Some x))
none_or_some None = inl refl
none_or_some (Some x) = inr (x, refl)

pub same_option : {A : Type 0} (a b : Option A) → ((x : A) → a ≡ Some x → b ≡ Some x) →
    ((x : A) → b ≡ Some x → a ≡ Some x) → a ≡ b
same_option None None f g = refl
same_option None (Some y) f g = g y refl
same_option (Some x) b f g = sym (f x refl)

-- maps are one where each finds what the other finds
pub same_found : {X : Type 0} (m n : ByBytes X) → ((q : List ℕ) (x : X) → get m q ≡ Some x → get n q ≡ Some x) →
    ((q : List ℕ) (x : X) → get n q ≡ Some x → get m q ≡ Some x) → m ≡ n
same_found m n f g = same_answers m n (λ q. same_option (get m q) (get n q) (f q) (g q))

pub map_some : {A B : Type 0} (f : A → B) (o : Option A) (y : B) → option_map f o ≡ Some y → (x : A) × (o ≡ Some x) ×
    (f x ≡ y)
map_some f None y e = absurd (let bad : None ≡ Some y = e in cc)
map_some f (Some x) y e = (x, refl, let same : Some (f x) ≡ Some y = e in cc)

-- ROWS BY THEIR PATHS

module _ (keys : Keys) (rows : Rows) where
  pub row_of_key : (path : List ℕ) (key : ℕ) → get keys path ≡ Some key → row_at keys rows path ≡ slot rows key
  row_of_key path key is = and_then (λ k. slot rows k) (get keys path) key is

  pub key_of_row : (path : List ℕ) (row : PathRow) → row_at keys rows path ≡ Some row →
      (key : ℕ) × (get keys path ≡ Some key) × (slot rows key ≡ Some row)
  key_of_row path row is = and_then_some (λ k. slot rows k) (get keys path) row is

  pub no_key : (path : List ℕ) → IsKeyed keys rows → row_at keys rows path ≡ None → get keys path ≡ None
  no_key path keyed none = elim (none_or_some (get keys path)) as (λ _. get keys path ≡ None) [
    | inl e ↦ e
    | inr k ↦ absurd (let row = some_of (slot rows k.0) (keyed.has_row path k.0 k.1) in some_none
        (row_of_key path k.0 k.1 ∙ row.1) none)
  ]

-- a name's key, and the row that gives it
pub record IsNamed (look : List ℕ → Option PathRow) (key h : List ℕ) : Type 0 where
  pub path : List ℕ
  pub row : PathRow
  pub found : look path ≡ Some row
  pub key_is : key ≡ row.dir ++ last_part path
  pub leads : row.to ≡ h

-- THE NAMES OF A LIST OF KEYS

record NamedBy (rows : Rows) (es : List (List ℕ × ℕ)) (k h : List ℕ) : Type 0 where
  path : List ℕ
  key : ℕ
  row : PathRow
  among : IsAmong (path, key) es
  found : slot rows key ≡ Some row
  key_is : k ≡ row.dir ++ last_part path
  leads : row.to ≡ h

named_later : (rows : Rows) (e : List ℕ × ℕ) (es : List (List ℕ × ℕ)) (k h : List ℕ) → NamedBy rows es k h →
    NamedBy rows (e ∷ es) k h
named_later rows e es k h n =
    record {
      path = n.path;
      key = n.key;
      row = n.row;
      among = inr n.among;
      found = n.found;
      key_is = n.key_is;
      leads = n.leads;
    }

named_by : (rows : Rows) (es : List (List ℕ × ℕ)) (k h : List ℕ) →
    find (slice_cmp nat_cmp) k (named_rows rows es) ≡ Some h → NamedBy rows es k h
named_by rows [] k h is = absurd (let bad : None ≡ Some h = is in cc)
named_by rows (e ∷ es) k h is =
    elim (slot rows e.1) as (λ o. slot rows e.1 ≡ o →
    find (slice_cmp nat_cmp) k (with_row e.0 o (named_rows rows es)) ≡ Some h → NamedBy rows (e ∷ es) k h) [
      | None ↦ λ _ s. named_later rows e es k h (named_by rows es k h s)
      | Some row ↦ λ found s.
          elim (is_eq (slice_cmp nat_cmp k (row.dir ++ last_part e.0))) as (λ b. is_eq
          (slice_cmp nat_cmp k (row.dir ++ last_part e.0)) ≡ b →
          cond b (Some row.to) (find (slice_cmp nat_cmp) k (named_rows rows es)) ≡ Some h → NamedBy rows (e ∷ es) k h) [
            | true ↦ λ t u. record {
              path = e.0;
              key = e.1;
              row = row;
              among = inl refl;
              found = found;
              key_is = same-keys k (row.dir ++ last_part e.0) t;
              leads = let same : Some row.to ≡ Some h = u in cc;
            }
            | false ↦ λ _ u. named_later rows e es k h (named_by rows es k h u)
          ] refl s
    ] refl is

named_some : (rows : Rows) (es : List (List ℕ × ℕ)) (path : List ℕ) (key : ℕ) (row : PathRow) →
    IsAmong (path, key) es → slot rows key ≡ Some row →
    IsSome (find (slice_cmp nat_cmp) (row.dir ++ last_part path) (named_rows rows es))
named_some rows [] path key row m found = absurd m
named_some rows (e ∷ es) path key row (inl same) found =
    let name = row.dir ++ last_part path in
    subst (λ (e : List ℕ × ℕ). IsSome (find (slice_cmp nat_cmp)
    name (with_row e.0 (slot rows e.1) (named_rows rows es)))) (sym same)
    (subst (λ o. IsSome (find (slice_cmp nat_cmp) name (with_row path o (named_rows rows es)))) (sym found)
    (some_is (cond (is_eq (slice_cmp nat_cmp name name)) (Some row.to)
    (find (slice_cmp nat_cmp) name (named_rows rows es)))
    (ap (λ b. cond b (Some row.to) (find (slice_cmp nat_cmp) name (named_rows rows es))) (same-key_refl name))))
named_some rows (e ∷ es) path key row (inr m) found =
    let later = named_some rows es path key row m found in
    let name = row.dir ++ last_part path in
    elim (slot rows e.1) as (λ o. IsSome (find (slice_cmp nat_cmp) name (with_row e.0 o (named_rows rows es)))) [
      | None ↦ later
      | Some first ↦ elim (is_eq (slice_cmp nat_cmp name (first.dir ++ last_part e.0))) as (λ b. IsSome
          (cond b (Some first.to) (find (slice_cmp nat_cmp) name (named_rows rows es)))) [
            | true ↦ refl
            | false ↦ later
          ]
    ]

module _ (keys : Keys) (rows : Rows) where
  pub names_sound : (k h : List ℕ) → get (names_in keys rows) k ≡ Some h → IsNamed (row_at keys rows) k h
  unfolding names_in
  names_sound k h is =
      let n = named_by rows (entries keys)
      k h (sym (get-from_entries nat_list_cmp_total (named_rows rows (entries keys)) k) ∙ is) in
      record {
        path = n.path;
        row = n.row;
        found = row_of_key keys rows n.path n.key (entry_got keys n.path n.key n.among) ∙ n.found;
        key_is = n.key_is;
        leads = n.leads;
      }

  pub names_some : (path : List ℕ) (row : PathRow) → row_at keys rows path ≡ Some row →
      IsSome (get (names_in keys rows) (row.dir ++ last_part path))
  unfolding names_in
  names_some path row is =
      let key = key_of_row keys rows path row is in
      subst (λ (o : Option (List ℕ)). IsSome o)
      (sym (get-from_entries nat_list_cmp_total (named_rows rows (entries keys)) (row.dir ++ last_part path)))
      (named_some rows (entries keys) path key.0 row (got_entry keys path key.0 key.1) key.2)

-- A TREE

module _ (look : List ℕ → Option PathRow) (dirs : Dirs) (tree : IsTree look dirs) where
  -- the directory of a row
  pub dir_of : (path : List ℕ) (row : PathRow) → look path ≡ Some row →
      (top : List ℕ) × (get dirs row.dir ≡ Some top) × (path ≡ joined top (last_part path)) × (length row.dir ≡ 32)
  dir_of path row is =
      let placed = tree.placed path row is in
      let top = some_of (get dirs row.dir) placed.in_dir in (
        top.0,
        top.1,
        placed.path_is top.0 top.1,
        tree.fits row.dir top.0 top.1,
      )

  pub no_slash_at : (path : List ℕ) (row : PathRow) → look path ≡ Some row → has_slash (last_part path) ≡ false
  no_slash_at path row is = name_no_slash (last_part path) (tree.placed path row is).name_is

  -- no two directories have one path
  pub one_dir : (dir other path : List ℕ) → get dirs dir ≡ Some path → get dirs other ≡ Some path → dir ≡ other
  one_dir dir other [] x y = tree.rooted dir other x y
  one_dir dir other (b ∷ path) x y =
      let row = some_of (look (b ∷ path)) (tree.there dir (b ∷ path) x (not_nil b path)) in
      sym (tree.own dir (b ∷ path) row.0 x row.1) ∙ tree.own other (b ∷ path) row.0 y row.1

  -- no two rows have one name
  pub one_name : (path other : List ℕ) (row more : PathRow) → look path ≡ Some row → look other ≡ Some more →
      row.dir ++ last_part path ≡ more.dir ++ last_part other → path ≡ other
  one_name path other row more is is' e =
      let d = dir_of path row is in
      let f = dir_of other more is' in
      let dir : row.dir ≡ more.dir = apart_keys more.dir row.dir (last_part other) (last_part path) f.3 d.3 e in
      let top : d.0 ≡ f.0 = some_same d.1 (ap (get dirs) dir ∙ f.1) in
      let name : last_part path ≡ last_part other = append_cancel_left more.dir (last_part path) (last_part other)
      (ap (λ l. l ++ last_part path) (sym dir) ∙ e) in
      d.2 ∙ ap (λ l. joined l (last_part path)) top ∙ ap (joined f.0) name ∙ sym f.2

  -- the row at a name of a directory is of that directory
  pub row_in : (dir top name : List ℕ) (row : PathRow) → get dirs dir ≡ Some top → has_slash name ≡ false →
      look (joined top name) ≡ Some row →
      (row.dir ≡ dir) × (last_part (joined top name) ≡ name)
  row_in dir top name row is flat found =
      let d = dir_of (joined top name) row found in
      let same = joined_same top d.0 name (last_part (joined top name)) d.2 flat (no_slash_at (joined top name)
      row found) in
      (one_dir row.dir dir top (d.1 ∙ ap Some (sym same.0)) is, sym same.1)

-- NAMES OF A TREE

module _ (keys : Keys) (rows : Rows) (dirs : Dirs) (tree : IsTree (row_at keys rows) dirs) where
  pub names_complete : (path : List ℕ) (row : PathRow) → row_at keys rows path ≡ Some row →
      get (names_in keys rows) (row.dir ++ last_part path) ≡ Some row.to
  names_complete path row is =
      let h = some_of (get (names_in keys rows) (row.dir ++ last_part path)) (names_some keys rows path row is) in
      let n = names_sound keys rows (row.dir ++ last_part path) h.0 h.1 in
      let same = one_name (row_at keys rows) dirs tree path n.path row n.row is n.found n.key_is in
      let row_is : row ≡ n.row = some_same is (ap (row_at keys rows) same ∙ n.found) in
      h.1 ∙ ap Some (sym n.leads) ∙ ap (λ (r : PathRow). Some r.to) (sym row_is)

  pub names_of_named : (k h : List ℕ) → IsNamed (row_at keys rows) k h → get (names_in keys rows) k ≡ Some h
  names_of_named k h n = ap (get (names_in keys rows)) n.key_is ∙ names_complete n.path n.row n.found
      ∙ ap Some n.leads

  -- what a name's row is, where the name leads somewhere
  pub named_in : (dir top name h : List ℕ) → get dirs dir ≡ Some top →
      get (names_in keys rows) (dir ++ name) ≡ Some h →
      (row : PathRow) × (row_at keys rows (joined top name) ≡ Some row) × (row.dir ≡ dir) × (row.to ≡ h)
  named_in dir top name h is leads =
      let n = names_sound keys rows (dir ++ name) h leads in
      let d = dir_of (row_at keys rows) dirs tree n.path n.row n.found in
      let same : dir ≡ n.row.dir = apart_keys n.row.dir dir (last_part n.path) name d.3 (tree.fits dir top is)
      n.key_is in
      let top_is : top ≡ d.0 = some_same is (ap (get dirs) same ∙ d.1) in
      let name_is : name ≡ last_part n.path = append_cancel_left dir name (last_part n.path) (n.key_is
      ∙ ap (λ l. l ++ last_part n.path) (sym same)) in
      let path : joined top name ≡ n.path = ap (λ l. joined l name) top_is ∙ ap (joined d.0) name_is ∙ sym d.2 in
      (n.row, ap (row_at keys rows) path ∙ n.found, sym same, n.leads)

  -- what a name of a directory leads to
  pub get-names_in : (dir top name : List ℕ) → get dirs dir ≡ Some top → has_slash name ≡ false →
      get (names_in keys rows) (dir ++ name) ≡ option_map (λ row. row.to) (row_at keys rows (joined top name))
  get-names_in dir top name is flat = same_option _ _ (
      λ h leads.
      let n = named_in dir top name h is leads in
      ap (option_map (λ (row : PathRow). row.to)) n.1 ∙ ap Some n.3
      ) (
      λ h found.
      let r = map_some (λ (row : PathRow). row.to) (row_at keys rows (joined top name)) h found in
      let in_it = row_in (row_at keys rows) dirs tree dir top name r.0 is flat r.1 in
      ap (λ l. get (names_in keys rows) (l ++ name)) (sym in_it.0) ∙ ap (λ l. get (names_in keys rows) (r.0.dir ++ l))
      (sym in_it.1)
      ∙ names_complete (joined top name) r.0 r.1 ∙ ap Some r.2
      )

  -- what is no directory has no names
  pub names_of_none : (dir name : List ℕ) → length dir ≡ 32 → get dirs dir ≡ None →
      get (names_in keys rows) (dir ++ name) ≡ None
  names_of_none dir name fits none = elim (none_or_some (get (names_in keys rows) (dir ++ name))) as (λ _. get
      (names_in keys rows) (dir ++ name) ≡ None) [
        | inl e ↦ e
        | inr h ↦ absurd (
            let n = names_sound keys rows (dir ++ name) h.0 h.1 in
            let d = dir_of (row_at keys rows) dirs tree n.path n.row n.found in
            let same : dir ≡ n.row.dir = apart_keys n.row.dir dir (last_part n.path) name d.3 fits n.key_is in
            some_none (ap (get dirs) same ∙ d.1) none
            )
      ]

  -- a new name has no row
  pub no_row : (dir top name : List ℕ) → get dirs dir ≡ Some top → has_slash name ≡ false →
      get (names_in keys rows) (dir ++ name) ≡ None →
      row_at keys rows (joined top name) ≡ None
  no_row dir top name is flat none = elim (none_or_some (row_at keys rows (joined top name))) as (λ _. row_at keys
      rows (joined top name) ≡ None) [
        | inl e ↦ e
        | inr r ↦ absurd (some_none
            (get-names_in dir top name is flat ∙ ap (option_map (λ (row : PathRow). row.to)) r.1)
            none)
      ]
