-- Sums over the nodes of a tree are sums over the entries of the array that it stands for.
use Rattle.std.proofs.Common.{◌≡◌, ◌≢◌, ◌⊎◌, inl, inr, ℕ, ◌+◌, arith, true, List, slice_get, Option, Some, None, refl, sym, ap, ◌∙◌, subst}
use Rattle.std.specs.Prelude.{sum_by}
use Rattle.std.specs.FinMap.{get, remove}
use Rattle.server_trait.specs.Tree.{Tree, Node, Names, ByBytes, node_at}
use Rattle.server_trait.specs.Sums.{total}
use Rattle.server_trait.proofs.KeyedSums.{IsListed, total-listed}
use Rattle.server_trait.proofs.TreeLaws.{is_some_and, some_none, some_same, and_then_some, get-remove_same, get-remove_other, total-remove}
use Rattle.server_trait.specs.declared.bench.ConfEntry.{ConfEntry}
use Rattle.server_trait.specs.declared.bench.ConfTable.{ConfTable}
use Rattle.abs_model.specs.declared.entry.NameRow.{NameRow}
use Rattle.abs_model.specs.declared.entry.Object.{Object}
use Rattle.abs_model.specs.declared.entry.Object.TheVariants.{Null, File, Dir, Link}
use Rattle.abs_model.specs.declared.entry.Entry.{Entry}
use Rattle.abs_model.specs.Objects.{row_of}
use Rattle.abs_model.specs.Valid.{is_rising}
use Rattle.conf_map.specs.Stands.{handle_at, Leads, SameNames, IsObject, Stands}
use Rattle.conf_map.proofs.Frames.{handle_of_row, handle_node}
use Rattle.conf_map.proofs.Kept.{one_row}
use Rattle.conf_map.proofs.RowFacts.{row_of-at, apart_in, found_at}

null_of : (t : Tree) (rows : List ConfEntry) (r : ConfEntry) (o : Object) → IsObject t rows r o → r.handle ≡ None →
    o ≡ Null
null_of t rows r Null k is = refl
null_of t rows r (File a b) k is = absurd (some_none k.is_handle is)
null_of t rows r (Link a b) k is = absurd (some_none k.is_handle is)
null_of t rows r (Dir a b) k is = absurd (some_none k.is_handle is)

module _ (s : Option Tree) (table : ConfTable) (A : List Entry) (st : Stands s table A) (f : Node → ℕ) (g : Entry → ℕ)
    (null : (e : Entry) → e.object ≡ Null → g e ≡ 0)
    (live : (i : ℕ) (r : ConfEntry) (e : Entry) (h : List ℕ) (n : Node) → slice_get table.rows.items i ≡ Some r →
    slice_get A i ≡ Some e → r.handle ≡ Some h → node_at st.tree h ≡ Some n → f n ≡ g e) where
  abbrev t : Tree
  t = st.tree

  abbrev rest : ByBytes Node
  rest = remove (remove t.nodes t.root) st.placed.staging

  key : ConfEntry → Option (List ℕ)
  key r = r.handle

  at_rest : (q : List ℕ) → q ≢ t.root → q ≢ st.placed.staging → get rest q ≡ node_at t q
  at_rest q not_root not_staging = get-remove_other (remove t.nodes t.root) st.placed.staging q not_staging
      ∙ get-remove_other t.nodes t.root q not_root

  listed : IsListed (λ (r : ConfEntry). r.handle) f g rest table.rows.items A
  listed = record {
    size = st.size;
    once = λ i j x y h at_i at_j is_x is_y. one_row t table st.placed h i j
        (handle_of_row table.rows.items i x at_i ∙ is_x) (handle_of_row table.rows.items j y at_j ∙ is_y);
    covers = λ q v is.
        let not_staging : q ≢ st.placed.staging = λ e. some_none is
        (ap (get rest) e ∙ get-remove_same (remove t.nodes t.root) st.placed.staging) in
        let below = sym (get-remove_other (remove t.nodes t.root) st.placed.staging q not_staging) ∙ is in
        let not_root : q ≢ t.root = λ e. some_none below
        (ap (get (remove t.nodes t.root)) e ∙ get-remove_same t.nodes t.root) in
        by_case q not_root not_staging
        (st.placed.covered q v (sym (get-remove_other t.nodes t.root q not_root) ∙ below));
    none = λ i x y at_x at_y is. null y (null_of t table.rows.items x y.object (st.each i x y at_x at_y).object is);
    some = λ i x y h at_x at_y is.
        let at_i = handle_of_row table.rows.items i x at_x ∙ is in
        let n = handle_node s table A st i h at_i in
        let apart = st.placed.apart i h at_i in
        is_some_and (λ v. f v ≡ g y) (at_rest h apart.0 apart.1 ∙ n.1) (live i x y h n.0 at_x at_y is n.1);
  }
    where
      by_case : (q : List ℕ) → q ≢ t.root → q ≢ st.placed.staging →
          (q ≡ t.root) ⊎ ((q ≡ st.placed.staging) ⊎ ((i : ℕ) × (handle_at table.rows.items i ≡ Some q))) →
          (i : ℕ) × (x : ConfEntry) × (slice_get table.rows.items i ≡ Some x) × (x.handle ≡ Some q)
      by_case q a b (inl e) = absurd (a e)
      by_case q a b (inr (inl e)) = absurd (b e)
      by_case q a b (inr (inr c)) = let r = and_then_some (λ (r : ConfEntry). r.handle)
          (slice_get table.rows.items c.0) q c.1 in (c.0, r.0, r.1, r.2)

  -- a sum over the nodes: the root, staging, and the entries
  pub stands_total : (root staging : Node) → node_at t t.root ≡ Some root → node_at t st.placed.staging ≡ Some staging →
      total f t.nodes ≡ f root + (f staging + sum_by g A)
  stands_total root staging is_root is_staging =
      let a = total-remove f t.nodes t.root root is_root in
      let b = total-remove f (remove t.nodes t.root) st.placed.staging staging
      (get-remove_other t.nodes t.root st.placed.staging st.placed.root_apart ∙ is_staging) in
      let c = total-listed (λ (r : ConfEntry). r.handle) f g rest table.rows.items A listed in
      omega (arith, a, b, c)

-- NAMES

-- a sum over a directory's names is one over its entry's names
pub names_total : (rows : List ConfEntry) (names : List NameRow) (m : Names) (f : List ℕ → ℕ) (g : NameRow → ℕ) →
    is_rising names ≡ true → SameNames rows names m →
    ((r : NameRow) (h : List ℕ) → handle_at rows r.index ≡ Some h → f h ≡ g r) → total f m ≡ sum_by g names
names_total rows names m f g rising same agree = total-listed (λ (r : NameRow). Some r.name) f g m names names (record {
  size = refl;
  once = λ i j a b h at_i at_j is_a is_b. apart_in names i j a b rising at_i at_j
      (some_same refl is_a ∙ sym (some_same refl is_b));
  covers = λ q v is. covers q (row_of q names) refl v (subst (λ o. Leads rows o (row_of q names)) is (same q));
  none = λ i x y at_x at_y no_key. absurd (some_none refl no_key);
  some = λ i x y h at_x at_y is.
      let found : row_of x.name names ≡ Some x = row_of-at names i x rising at_x in
      let l = some x (get m x.name) refl (subst (λ o. Leads rows (get m x.name) o) found (same x.name)) in
      is_some_and (λ v. f v ≡ g y) (ap (get m) (sym (some_same refl is)) ∙ l.1)
      (agree x l.0 l.2 ∙ ap g (some_same at_x at_y));
})
  where
    covers : (q : List ℕ) (o : Option NameRow) → row_of q names ≡ o → (v : List ℕ) → Leads rows (Some v) o →
        (i : ℕ) × (x : NameRow) × (slice_get names i ≡ Some x) × (Some x.name ≡ Some q)
    covers q None is v l = absurd l
    covers q (Some r) is v l = let k = found_at names q r is in (k.0, r, k.1, ap Some k.2)

    some : (x : NameRow) (o : Option (List ℕ)) → get m x.name ≡ o → Leads rows o (Some x) →
        (h : List ℕ) × (get m x.name ≡ Some h) × (handle_at rows x.index ≡ Some h)
    some x None is l = absurd l
    some x (Some h) is l = (h, is, l)
