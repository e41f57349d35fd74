-- What a tree uses while objects are staged: what the array uses, two names of the root, and staging's names.
use Rattle.std.proofs.Common.{◌≡◌, ◌≢◌, ◌⊎◌, inl, inr, ℕ, ◌+◌, ◌*◌, arith, true, List, [], ◌∷◌, length, slice_get, Option, Some, None, refl, sym, ap, ◌∙◌, subst, cond, is_some, count_by}
use Rattle.std.specs.Prelude.{sum_by, not}
use Rattle.std.specs.FinMap.{get, insert, remove, empty, get-empty, len, len-insert}
use Rattle.std.specs.Ordering.{nat_cmp}
use Rattle.std.specs.Cmp.Lexicographic.{slice_cmp, nat_list_cmp_total}
use Rattle.std.proofs.lemmas.List.Sums.{sum_by-cons}
use Rattle.server_trait.specs.Tree.{Tree, Node, Names, ByBytes, node_at, names_at, names_in}
use Rattle.server_trait.specs.Tree as tree
use Rattle.server_trait.specs.Sums.{total}
use Rattle.server_trait.proofs.KeyedSums.{IsListed, total-listed}
use Rattle.server_trait.proofs.SumLaws.{total-none, total-ones}
use Rattle.server_trait.proofs.TreeLaws.{some_and, is_some_and, some_none, some_same, and_then_some, names_at-node, get-insert_other, get-remove_same, get-remove_other, total-remove}
use Rattle.server_trait.specs.declared.bench.ConfEntry.{ConfEntry}
use Rattle.server_trait.specs.declared.bench.ConfTable.{ConfTable}
use Rattle.abs_model.specs.declared.entry.NameRow.{NameRow}
use Rattle.abs_model.specs.declared.entry.Object.{Object}
use Rattle.abs_model.specs.declared.entry.Object.TheVariants.{Null, File, Dir, Link}
use Rattle.abs_model.specs.declared.entry.Entry.{Entry}
use Rattle.abs_model.specs.Objects.{row_of, names_of, is_null}
use Rattle.abs_model.specs.Objects as entries
use Rattle.abs_model.specs.Array as array
use Rattle.abs_model.specs.Valid.{is_rising}
use Rattle.conf_map.specs.Stands.{handle_at, root_names, export_name, staging_name, Leads, SameNames, IsObject}
use Rattle.conf_map.proofs.Frames.{handle_of_row}
use Rattle.conf_map.proofs.LiveRows.{live_object, object_holds}
use Rattle.conf_map.proofs.RowFacts.{found_at}
use Rattle.conf_map.proofs.Sizes.{used_names, used_content}
use Rattle.staging.specs.Staged.{Staged, StandOnce}
use Rattle.staging.proofs.Frames.{one_row}
use Rattle.staging.proofs.Made.{handle_node, root_node, staging_node}

pub null_of : (t : Tree) (rows : List ConfEntry) (r : ConfEntry) (o : Object) → IsObject t rows r o → r.handle ≡ None → o ≡ Null
null_of t rows r Null k is = refl
null_of t rows r (File a b) k is = absurd (some_none k.is_handle is)
null_of t rows r (Link a b) k is = absurd (some_none k.is_handle is)
null_of t rows r (Dir a b) k is = absurd (some_none k.is_handle is)

module _ (t : Tree) (area : List ℕ) (table : ConfTable) (A : List Entry) (S : List NameRow) (st : Staged t area table A S) (f : Node → ℕ) (g : Entry → ℕ)
    (null : (e : Entry) → e.object ≡ Null → g e ≡ 0)
    (live : (i : ℕ) (r : ConfEntry) (e : Entry) (h : List ℕ) (n : Node) → slice_get table.rows.items i ≡ Some r → slice_get A i ≡ Some e → r.handle ≡ Some h → node_at t h ≡ Some n → f n ≡ g e) where
  abbrev rest : ByBytes Node
  rest = remove (remove t.nodes t.root) area

  at_rest : (q : List ℕ) → q ≢ t.root → q ≢ area → get rest q ≡ node_at t q
  at_rest q not_root not_staging = get-remove_other (remove t.nodes t.root) area q not_staging ∙ get-remove_other t.nodes t.root q not_root

  listed : IsListed (λ (r : ConfEntry). r.handle) f g rest table.rows.items A
  listed = record {
    size = st.size;
    once = λ i j x y h at_i at_j is_x is_y. one_row t area table S st.sited h i j (handle_of_row table.rows.items i x at_i ∙ is_x) (handle_of_row table.rows.items j y at_j ∙ is_y);
    covers = λ q v is.
        let not_staging : q ≢ area = λ e. some_none is (ap (get rest) e ∙ get-remove_same (remove t.nodes t.root) area) in
        let below = sym (get-remove_other (remove t.nodes t.root) area q not_staging) ∙ is in
        let not_root : q ≢ t.root = λ e. some_none below (ap (get (remove t.nodes t.root)) e ∙ get-remove_same t.nodes t.root) in
        by_case q not_root not_staging (st.sited.covered q v (sym (get-remove_other t.nodes t.root q not_root) ∙ below));
    none = λ i x y at_x at_y is. null y (null_of t table.rows.items x y.object (st.each i x y at_x at_y).object is);
    some = λ i x y h at_x at_y is.
        let at_i = handle_of_row table.rows.items i x at_x ∙ is in
        let n = handle_node t area table A S st i h at_i in
        let apart = st.sited.apart i h at_i in
        is_some_and (λ v. f v ≡ g y) (at_rest h apart.0 apart.1 ∙ n.1) (live i x y h n.0 at_x at_y is n.1);
  }
    where
      by_case : (q : List ℕ) → q ≢ t.root → q ≢ area → (q ≡ t.root) ⊎ ((q ≡ area) ⊎ ((i : ℕ) × (handle_at table.rows.items i ≡ Some q))) →
          (i : ℕ) × (x : ConfEntry) × (slice_get table.rows.items i ≡ Some x) × (x.handle ≡ Some q)
      by_case q a b (inl e) = absurd (a e)
      by_case q a b (inr (inl e)) = absurd (b e)
      by_case q a b (inr (inr c)) = let r = and_then_some (λ (r : ConfEntry). r.handle) (slice_get table.rows.items c.0) q c.1 in (c.0, r.0, r.1, r.2)

  -- a sum over the nodes: the root, staging, and the entries
  pub staged_total : (root staging : Node) → node_at t t.root ≡ Some root → node_at t area ≡ Some staging → total f t.nodes ≡ f root + (f staging + sum_by g A)
  staged_total root staging is_root is_staging =
      let a = total-remove f t.nodes t.root root is_root in
      let b = total-remove f (remove t.nodes t.root) area staging (get-remove_other t.nodes t.root area st.sited.root_apart ∙ is_staging) in
      let c = total-listed (λ (r : ConfEntry). r.handle) f g rest table.rows.items A listed in
      omega (arith, a, b, c)

sum_by-ones : (rows : List NameRow) → sum_by (λ _. 1) rows ≡ length rows
sum_by-ones [] = refl
sum_by-ones (r ∷ rows) = let a = sum_by-cons (λ (r : NameRow). 1) r rows in let b = sum_by-ones rows in omega (arith, a, b)

-- as many names in a node's map as in the list
pub len_names : (rows : List ConfEntry) (names : List NameRow) (m : Names) → StandOnce names → SameNames rows names m → len m ≡ length names
len_names rows names m stand same = sym (total-ones m) ∙ total-listed (λ (r : NameRow). Some r.name) (λ _. 1) (λ _. 1) m names names (record {
  size = refl;
  once = λ i j a b h at_i at_j is_a is_b. stand.once i j a b at_i at_j (some_same refl is_a ∙ sym (some_same refl is_b));
  covers = λ q v is. covers q (row_of q names) refl v (subst (λ o. Leads rows o (row_of q names)) is (same q));
  none = λ i x y at_x at_y no_key. absurd (some_none refl no_key);
  some = λ i x y h at_x at_y is.
      let found : row_of x.name names ≡ Some x = stand.found i x at_x in
      let l = some x (get m x.name) refl (subst (λ o. Leads rows (get m x.name) o) found (same x.name)) in
      is_some_and (λ v. 1 ≡ 1) (ap (get m) (sym (some_same refl is)) ∙ l.1) refl;
}) ∙ sum_by-ones names
  where
    covers : (q : List ℕ) (o : Option NameRow) → row_of q names ≡ o → (v : List ℕ) → Leads rows (Some v) o → (i : ℕ) × (x : NameRow) × (slice_get names i ≡ Some x) × (Some x.name ≡ Some q)
    covers q None is v l = absurd l
    covers q (Some r) is v l = let k = found_at names q r is in (k.0, r, k.1, ap Some k.2)

    some : (x : NameRow) (o : Option (List ℕ)) → get m x.name ≡ o → Leads rows o (Some x) → (h : List ℕ) × (get m x.name ≡ Some h)
    some x None is l = absurd l
    some x (Some h) is l = (h, is)

module _ (t : Tree) (area : List ℕ) (table : ConfTable) (A : List Entry) (S : List NameRow) (st : Staged t area table A S)
    (rising : (i : ℕ) (e : Entry) → slice_get A i ≡ Some e → is_rising (names_of e) ≡ true) (stand : StandOnce S)
    (two : len (root_names st.sited.export area) ≡ 2) where
  -- a server uses what its array uses, two names more, and staging's names
  pub used_staged : tree.used t ≡ 1024 + (array.used A + 512 * length S)
  unfolding tree.used
  used_staged =
      let r = root_node t area table S st.sited in
      let g = staging_node t area table S st.sited in
      let a = staged_total t area table A S st (λ n. tree.used_by n.content) entries.used_by
      (λ e is. ap (λ o. entries.used_by (record { generation = e.generation; object = o })) is)
      (λ i r e h n at_r at_e is at. used_content table.rows.items e.generation e.object n.content (rising i e at_e) (object_holds t table.rows.items r e.generation e.object h n (st.each i r e at_r at_e).object is at).1)
      r.0 g.0 r.1 g.1 in
      let b = used_names r.0.content (root_names st.sited.export area) (sym (names_at-node t t.root r.0 r.1) ∙ st.sited.root_has) in
      let m = some_and (names_at t area) (SameNames table.rows.items S) st.sited.staging_has in
      let c = used_names g.0.content m.0 (sym (names_at-node t area g.0 g.1) ∙ m.1) in
      let d = len_names table.rows.items S m.0 stand m.2 in
      omega (arith, a, b, c, d, two)

  -- and has a node for each live entry, and two more
  pub nodes_staged : len t.nodes ≡ 2 + count_by (λ e. not (is_null e)) A
  nodes_staged =
      let r = root_node t area table S st.sited in
      let g = staging_node t area table S st.sited in
      let a = staged_total t area table A S st (λ _. 1) (λ e. cond (not (is_null e)) 1 0)
      (λ e is. ap (λ o. cond (not (is_null (record { generation = e.generation; object = o }))) 1 0) is)
      (λ i r e h n at_r at_e is at. ap (λ b. cond (not b) 1 0) (sym (live_object t table.rows.items r e.generation e.object h (st.each i r e at_r at_e).object is)))
      r.0 g.0 r.1 g.1 in
      let b = total-ones t.nodes in
      omega (arith, a, b)

-- the root has two names
apart_names : staging_name ≢ export_name
apart_names e = let l : length staging_name ≡ length export_name = ap length e in absurd (omega arith)

len_more : (m : Names) (k v : List ℕ) → get m k ≡ None → len (insert m k v) ≡ len m + 1
len_more m k v none = len-insert nat_list_cmp_total m k v ∙ ap (λ o. cond (is_some o) (len m) (len m + 1)) none

pub two_names : (export area : List ℕ) → len (root_names export area) ≡ 2
two_names export area =
    let a = len_more (insert empty export_name export) staging_name area (get-insert_other empty export_name export staging_name apart_names ∙ get-empty (slice_cmp nat_cmp) staging_name) in
    let b = len_more empty export_name export (get-empty (slice_cmp nat_cmp) export_name) in
    let c = sym (total-ones (let m : Names = empty in m)) ∙ total-none nat_list_cmp_total (λ (x : List ℕ). 1) empty (λ q v is. absurd (some_none is (get-empty (slice_cmp nat_cmp) q))) in
    omega (arith, a, b, c)
