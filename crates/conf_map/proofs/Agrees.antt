-- What a server tells in numbers is what the array says: the bytes that are used, its nodes, and the names of an
-- object.
use Rattle.std.proofs.Common.{◌≡◌, ◌≢◌, inl, inr, ℕ, zero, suc, ◌+◌, ◌≤◌, ◌<◌, arith, true, false, List, [], ◌∷◌, length, Option, Some, refl, sym, ap, ◌∙◌, cond}
use Rattle.std.specs.Prelude.{not, sum_by, count_by, ◌==◌, bytes_eq}
use Rattle.std.specs.Ordering.{nat_cmp}
use Rattle.std.specs.Cmp.Lexicographic.{slice_cmp, nat_list_cmp_total}
use Rattle.std.specs.FinMap.{insert, empty, len, get-empty}
use Rattle.std.proofs.lemmas.List.Sums.{sum_by-cons, count_by-le-length}
use Rattle.std.proofs.lemmas.List.Quantifiers.{position-Some}
use Rattle.std.proofs.lemmas.Slice.Eq.{bytes_eq-Decides}
use Rattle.nfs2_types.specs.declared.Limits.{Limits}
use Rattle.server_trait.specs.Tree.{Tree, Names, Content, BytesOf, TextOf, NamesOf, names_in, names_to, one_if}
use Rattle.server_trait.specs.Tree as tree
use Rattle.server_trait.specs.Sums.{total}
use Rattle.server_trait.proofs.SumLaws.{total-none, total-ones, total-insert_new}
use Rattle.server_trait.proofs.TreeLaws.{some_and, some_none, some_same, get-insert_other, one_or_not, names_at-node}
use Rattle.server_trait.specs.declared.bench.ConfTable.{ConfTable}
use Rattle.abs_model.specs.declared.entry.NameRow.{NameRow}
use Rattle.abs_model.specs.declared.entry.Object.{Object}
use Rattle.abs_model.specs.declared.entry.Object.TheVariants.{Null, File, Dir, Link}
use Rattle.abs_model.specs.declared.entry.Entry.{Entry}
use Rattle.abs_model.specs.Objects.{is_null, is_dir, names_of}
use Rattle.abs_model.specs.Objects as entries
use Rattle.abs_model.specs.Array.{entry_at, null_entry, can_take, free}
use Rattle.abs_model.specs.Array as array
use Rattle.abs_model.specs.Valid.{is_rising, Valid}
use Rattle.conf_map.specs.Stands.{handle_at, root_names, export_name, staging_name, SameNames, SameContent, Stands}
use Rattle.conf_map.proofs.ArrayFacts.{eq_is, eq_not, fits_at}
use Rattle.conf_map.proofs.Counted.{stands_total, names_total}
use Rattle.conf_map.proofs.Kept.{one_row}
use Rattle.conf_map.proofs.LiveRows.{live_object, object_holds}
use Rattle.conf_map.proofs.Made.{no_names, root_node, staging_node}
use Rattle.conf_map.proofs.RowFacts.{and_left}
use Rattle.conf_map.proofs.Sizes.{used_names, used_content}

-- THE ROOT AND STAGING

total-empty : (F : List ℕ → ℕ) → total F (let m : Names = empty in m) ≡ 0
total-empty F = total-none nat_list_cmp_total F empty
    (λ q v is. absurd (some_none is (get-empty (slice_cmp nat_cmp) q)))

apart_names : staging_name ≢ export_name
apart_names e = let l : length staging_name ≡ length export_name = ap length e in absurd (omega arith)

-- a sum over the root's names
root_total : (F : List ℕ → ℕ) (export staging : List ℕ) → total F (root_names export staging) ≡ F staging + F export
root_total F export staging =
    let a = total-insert_new nat_list_cmp_total F (insert empty export_name export) staging_name staging
    (get-insert_other empty export_name export staging_name apart_names
    ∙ get-empty (slice_cmp nat_cmp) staging_name) in
    let b = total-insert_new nat_list_cmp_total F empty export_name export
    (get-empty (slice_cmp nat_cmp) export_name) in
    let c = total-empty F in
    omega (arith, a, b, c)

-- BYTES AND NODES

used_null : (e : Entry) → e.object ≡ Null → entries.used_by e ≡ 0
used_null e is = ap (λ o. entries.used_by (record { generation = e.generation; object = o })) is

one_null : (e : Entry) → e.object ≡ Null → cond (not (is_null e)) 1 0 ≡ zero
one_null e is = let null : is_null e ≡ true = ap (λ o. is_null (record { generation = e.generation; object = o })) is in
    let none : cond (not (is_null e)) 1 0 ≡ zero = ap (λ b. cond (not b) 1 0) null in none

-- a null entry is not counted
null_not_live : (A : List Entry) (i : ℕ) → i < length A → is_null (entry_at A i) ≡ true →
    suc (count_by (λ e. not (is_null e)) A) ≤ length A
null_not_live [] i below null = absurd (omega arith)
null_not_live (e ∷ A) zero below null =
    let sum = sum_by-cons (λ (e : Entry). cond (not (is_null e)) 1 0) e A in
    let here : cond (not (is_null e)) 1 0 ≡ zero = ap (λ b. cond (not b) 1 0) null in
    let few = count_by-le-length (λ (e : Entry). not (is_null e)) A in
    omega (arith, sum, here, few)
null_not_live (e ∷ A) (suc i) below null =
    let sum = sum_by-cons (λ (e : Entry). cond (not (is_null e)) 1 0) e A in
    let few = null_not_live A i (omega arith) null in
    elim (is_null e) as (λ b. sum_by (λ e. cond (not (is_null e)) 1 0) (e ∷ A) ≡ cond (not b) 1 0 + sum_by
    (λ e. cond (not (is_null e)) 1 0) A → suc (count_by (λ e. not (is_null e)) (e ∷ A)) ≤ length (e ∷ A)) [
      | true ↦ λ sum. omega (arith, few, sum)
      | false ↦ λ sum. omega (arith, few, sum)
    ] sum

module _ (limits : Limits) (s : Option Tree) (table : ConfTable) (A : List Entry) (st : Stands s table A)
    (v : Valid limits A) where
  -- A server uses what its array uses, and two names more.
  pub used_agrees : tree.used st.tree ≡ 1024 + array.used A
  unfolding tree.used
  used_agrees =
      let r = root_node st.tree table st.placed in
      let g = staging_node st.tree table st.placed in
      let a = stands_total s table A st (λ n. tree.used_by n.content) entries.used_by used_null
      (λ i r e h n at_r at_e is at. used_content table.rows.items e.generation e.object n.content
      (fits_at limits A v i e at_e).rising
      (object_holds st.tree table.rows.items r e.generation e.object h n (st.each i r e at_r at_e).object is at).1)
      r.0 g.0 r.1 g.1 in
      let b = used_names r.0.content (root_names st.placed.export st.placed.staging)
      (sym (names_at-node st.tree st.tree.root r.0 r.1) ∙ st.placed.root_has) in
      let c = used_names g.0.content empty
      (sym (names_at-node st.tree st.placed.staging g.0 g.1) ∙ st.placed.staging_has) in
      let d = sym (total-ones (root_names st.placed.export st.placed.staging))
      ∙ root_total (λ _. 1) st.placed.export st.placed.staging in
      let e = sym (total-ones (let m : Names = empty in m)) ∙ total-empty (λ _. 1) in
      omega (arith, a, b, c, d, e)

  -- A server has a node for each live entry, and two more.
  pub nodes_agree : len st.tree.nodes ≡ 2 + count_by (λ e. not (is_null e)) A
  nodes_agree =
      let r = root_node st.tree table st.placed in
      let g = staging_node st.tree table st.placed in
      let a = stands_total s table A st (λ _. 1) (λ e. cond (not (is_null e)) 1 0) one_null
      (λ i r e h n at_r at_e is at. ap (λ b. cond (not b) 1 0)
      (sym (live_object st.tree table.rows.items r e.generation e.object h (st.each i r e at_r at_e).object is)))
      r.0 g.0 r.1 g.1 in
      let b = total-ones st.tree.nodes in
      omega (arith, a, b)

  -- at most two nodes more than entries
  pub nodes_few : len st.tree.nodes ≤ 2 + length A
  nodes_few = let a = nodes_agree in let b = count_by-le-length (λ (e : Entry). not (is_null e)) A in
      omega (arith, a, b)

  -- and one less where some entry is null
  pub nodes_fewer : (i : ℕ) → i < length A → is_null (entry_at A i) ≡ true → len st.tree.nodes ≤ 1 + length A
  nodes_fewer i below null = let a = nodes_agree in let b = null_not_live A i below null in omega (arith, a, b)

  -- so where an index is free
  pub nodes_free : (i : ℕ) → free A ≡ Some i → len st.tree.nodes ≤ 1 + length A
  nodes_free i is = let p = position-Some can_take A i null_entry is in nodes_fewer i p.0 (and_left _ _ p.1)

-- NAMES OF ONE OBJECT

bytes_not : (a b : List ℕ) → a ≢ b → bytes_eq a b ≡ false
bytes_not a b ne = elim (bytes_eq a b) as
    (λ x. bytes_eq a b ≡ x → x ≡ false) [
      | true ↦ λ t. absurd
          (ne ((bytes_eq-Decides a b).0 t))
      | false ↦ λ _. refl
    ] refl

names_to-names : (h : List ℕ) (c : Content) (m : Names) → names_in c ≡ Some m →
    names_to h c ≡ total (λ x. one_if (bytes_eq x h)) m
names_to-names h (BytesOf b) m is = absurd (some_none is refl)
names_to-names h (TextOf b) m is = absurd (some_none is refl)
names_to-names h (NamesOf k) m is = ap (total (λ x. one_if (bytes_eq x h))) (some_same refl is)

module _ (limits : Limits) (s : Option Tree) (table : ConfTable) (A : List Entry) (st : Stands s table A)
    (v : Valid limits A)
    (i : ℕ) (h : List ℕ) (at_i : handle_at table.rows.items i ≡ Some h) where
  one_name : (r : NameRow) (x : List ℕ) → handle_at table.rows.items r.index ≡ Some x →
      one_if (bytes_eq x h) ≡ one_if (r.index == i)
  one_name r x is = elim (one_or_not r.index i) as (λ _. one_if (bytes_eq x h) ≡ one_if (r.index == i)) [
    | inl e ↦ ap one_if ((bytes_eq-Decides x h).1 (some_same is (ap (handle_at table.rows.items) e ∙ at_i))
        ∙ sym (eq_is r.index i e))
    | inr ne ↦ ap one_if (bytes_not x h
        (λ e. ne (one_row st.tree table st.placed x r.index i is (at_i ∙ ap Some (sym e)))) ∙ sym (eq_not r.index i ne))
  ]

  content_links : (g : ℕ) (o : Object) (c : Content) → is_rising (names_of (record { generation = g; object = o }))
      ≡ true → SameContent table.rows.items o c →
      names_to h c ≡ count_by (λ row. row.index == i) (names_of (record { generation = g; object = o }))
  content_links g Null c rising k = absurd k
  content_links g (File a b) c rising k = ap (names_to h) k
  content_links g (Link a b) c rising k = ap (names_to h) k
  content_links g (Dir a names) c rising k =
      let m = some_and (names_in c) (SameNames table.rows.items names) k in
      names_to-names h c m.0 m.1
      ∙ names_total table.rows.items names m.0 (λ x. one_if (bytes_eq x h))
      (λ row. one_if (row.index == i)) rising m.2 one_name

  -- The server counts as many names of an object other than the root as the array has.
  pub links_agrees : i ≢ 0 → tree.links st.tree h ≡ array.links A i
  unfolding tree.links
  links_agrees not_root =
      let r = root_node st.tree table st.placed in
      let g = staging_node st.tree table st.placed in
      let a = stands_total s table A st (λ n. names_to h n.content) (λ e. count_by (λ row. row.index == i) (names_of e))
      (λ e is. ap (count_by (λ (row : NameRow). row.index == i)) (no_names e is))
      (λ j r e q n at_r at_e is at. content_links e.generation e.object n.content (fits_at limits A v j e at_e).rising
      (object_holds st.tree table.rows.items r e.generation e.object q n (st.each j r e at_r at_e).object is at).1)
      r.0 g.0 r.1 g.1 in
      let b = names_to-names h r.0.content (root_names st.placed.export st.placed.staging)
      (sym (names_at-node st.tree st.tree.root r.0 r.1) ∙ st.placed.root_has) in
      let c = names_to-names h g.0.content empty
      (sym (names_at-node st.tree st.placed.staging g.0 g.1) ∙ st.placed.staging_has) in
      let d = root_total (λ x. one_if (bytes_eq x h)) st.placed.export st.placed.staging in
      let e = total-empty (λ x. one_if (bytes_eq x h)) in
      let u : one_if (bytes_eq st.placed.staging h) ≡ zero = ap one_if
      (bytes_not st.placed.staging h (λ e. (st.placed.apart i h at_i).1 (sym e))) in
      let w : one_if (bytes_eq st.placed.export h) ≡ zero = ap one_if
      (bytes_not st.placed.export h
      (λ e. not_root (one_row st.tree table st.placed h i 0 at_i (st.placed.is_export ∙ ap Some e)))) in
      omega (arith, a, b, c, d, e, u, w)

  -- what is no directory is not the root
  pub not_root : is_dir (entry_at A i) ≡ false → i ≢ 0
  not_root other e = let bad : true ≡ false = sym v.root ∙ ap (λ i. is_dir (entry_at A i)) (sym e) ∙ other in cc
