-- All handles are others, and tree and table stand for the same array.
use Rattle.std.proofs.Common.{◌≡◌, ◌⊎◌, inl, inr, ℕ, true, false, Bool, cond, List, Option, Some, None, IsSomeAnd, is_some, length, slice_get, refl, sym, ap, ◌∙◌, subst}
use Rattle.std.specs.Option.{option_map}
use Rattle.std.specs.Ordering.{nat_cmp, eq_by_cmp}
use Rattle.std.specs.Cmp.Lexicographic.{slice_cmp, nat_list_cmp_total}
use Rattle.std.specs.FinMap.{get, insert, empty, get-insert, get-empty}
use Rattle.server_trait.specs.Tree.{Tree, Node, Names, Content, BytesOf, TextOf, NamesOf, node_at, names_at, names_in}
use Rattle.server_trait.specs.Calls.{IsMovedTree, IsMovedNode, IsMovedContent}
use Rattle.server_trait.proofs.TreeLaws.{some_and, is_some_and, some_same, and_then_some, names_at-node, same_answers, slice_get-along}
use Rattle.server_trait.proofs.SoftLaws.{some_of}
use Rattle.server_trait.specs.declared.bench.ConfEntry.{ConfEntry}
use Rattle.server_trait.specs.declared.bench.ConfTable.{ConfTable}
use Rattle.abs_model.specs.declared.entry.Attr.{Attr}
use Rattle.abs_model.specs.declared.entry.NameRow.{NameRow}
use Rattle.abs_model.specs.declared.entry.Object.{Object}
use Rattle.abs_model.specs.declared.entry.Object.TheVariants.{Null, File, Dir, Link}
use Rattle.abs_model.specs.declared.entry.Entry.{Entry}
use Rattle.abs_model.specs.Objects.{row_of}
use Rattle.conf_map.specs.Stands.{handle_at, root_names, export_name, staging_name, Placed, Leads, SameNames, SameContent, Holds, IsObject, RowIs, Stands}
use Rattle.conf_map.specs.Tables.{IsInStep}
use Rattle.conf_map.proofs.Frames.{handle_of_row, handle_node}
use Rattle.conf_map.proofs.Made.{root_node, staging_node}

-- every row has its node's new handle
pub record MovesHandles (t : Tree) (table : ConfTable) (t' : Tree) (table' : ConfTable) : Type 0 where
  pub new : List ℕ → List ℕ
  pub moved : IsMovedTree new t t'
  pub size : length table'.rows.items ≡ length table.rows.items
  pub rows : (i : ℕ) (r : ConfEntry) → slice_get table.rows.items i ≡ Some r →
      slice_get table'.rows.items i ≡ Some (record r { handle = option_map new r.handle })
  pub by_handle : IsInStep table'

-- the names under a new handle
pub record MovedNames (new : List ℕ → List ℕ) (m : Names) (o : Option Names) : Type 0 where
  pub names : Names
  pub is : o ≡ Some names
  pub leads : (x : List ℕ) → get names x ≡ option_map new (get m x)

moved_content : (new : List ℕ → List ℕ) (c c' : Content) (m : Names) → IsMovedContent new c c' → names_in c ≡ Some m → MovedNames new m (names_in c')
moved_content new (BytesOf b) c' m k is = absurd (let bad : None ≡ Some m = is in cc)
moved_content new (TextOf b) c' m k is = absurd (let bad : None ≡ Some m = is in cc)
moved_content new (NamesOf n) c' m k is =
    let x = some_and (names_in c') (λ m'. (name : List ℕ) → get m' name ≡ option_map new (get n name)) k in
    let same : n ≡ m = (let e : Some n ≡ Some m = is in cc) in
    record { names = x.0; is = x.1; leads = λ name. x.2 name ∙ ap (λ n. option_map new (get n name)) same }

-- the names of a directory under its new handle
pub moved_names : (new : List ℕ → List ℕ) (t t' : Tree) (moved : IsMovedTree new t t') (q : List ℕ) (m : Names) → names_at t q ≡ Some m → MovedNames new m (names_at t' (new q))
moved_names new t t' moved q m is =
    let n = and_then_some (λ (n : Node). names_in n.content) (node_at t q) m is in
    let x = some_and (node_at t' (new q)) (IsMovedNode new n.0) (moved.there q n.0 n.1) in
    let k = moved_content new n.0.content x.0.content m x.2.content n.2 in
    record { names = k.names; is = names_at-node t' (new q) x.0 x.1 ∙ k.is; leads = k.leads }

two : (new : List ℕ → List ℕ) (a b : Bool) (s e : List ℕ) → option_map new (cond a (Some s) (cond b (Some e) None)) ≡ cond a (Some (new s)) (cond b (Some (new e)) None)
two new true b s e = refl
two new false true s e = refl
two new false false s e = refl

get-root_names : (e s x : List ℕ) → get (root_names e s) x ≡ cond (eq_by_cmp (slice_cmp nat_cmp) x staging_name) (Some s) (cond (eq_by_cmp (slice_cmp nat_cmp) x export_name) (Some e) None)
get-root_names e s x =
    get-insert nat_list_cmp_total (insert empty export_name e) staging_name s x
    ∙ ap (cond (eq_by_cmp (slice_cmp nat_cmp) x staging_name) (Some s)) (get-insert nat_list_cmp_total empty export_name e x ∙ ap (cond (eq_by_cmp (slice_cmp nat_cmp) x export_name) (Some e)) (get-empty (slice_cmp nat_cmp) x))

leads_moved : (rows rows' : List ConfEntry) (new : List ℕ → List ℕ) → ((k : ℕ) (h : List ℕ) → handle_at rows k ≡ Some h → handle_at rows' k ≡ Some (new h)) →
    (x : Option (List ℕ)) (o : Option NameRow) → Leads rows x o → Leads rows' (option_map new x) o
leads_moved rows rows' new kept None None l = tt
leads_moved rows rows' new kept (Some h) (Some row) l = kept row.index h l
leads_moved rows rows' new kept None (Some row) l = absurd l
leads_moved rows rows' new kept (Some h) None l = absurd l

module _ (s s' : Option Tree) (table table' : ConfTable) (A : List Entry) (t' : Tree) (st : Stands s table A) (c : MovesHandles st.tree table t' table') where
  abbrev t : Tree
  t = st.tree

  kept : (k : ℕ) (h : List ℕ) → handle_at table.rows.items k ≡ Some h → handle_at table'.rows.items k ≡ Some (c.new h)
  kept k h is =
      let r = and_then_some (λ (r : ConfEntry). r.handle) (slice_get table.rows.items k) h is in
      handle_of_row table'.rows.items k (record r.0 { handle = option_map c.new r.0.handle }) (c.rows k r.0 r.1) ∙ ap (option_map c.new) r.2

  -- a row with a handle had one
  was : (k : ℕ) (q : List ℕ) → handle_at table'.rows.items k ≡ Some q → (h : List ℕ) × (handle_at table.rows.items k ≡ Some h) × (q ≡ c.new h)
  was k q is =
      let r' = and_then_some (λ (r : ConfEntry). r.handle) (slice_get table'.rows.items k) q is in
      let r = slice_get-along table'.rows.items table.rows.items k r'.0 c.size r'.1 in
      let same : option_map c.new r.0.handle ≡ Some q = ap (λ (r : ConfEntry). r.handle) (some_same (c.rows k r.0 r.1) r'.1) ∙ r'.2 in
      had r.0.handle same (handle_of_row table.rows.items k r.0 r.1)
    where
      had : (o : Option (List ℕ)) → option_map c.new o ≡ Some q → handle_at table.rows.items k ≡ o → (h : List ℕ) × (handle_at table.rows.items k ≡ Some h) × (q ≡ c.new h)
      had None e at = absurd (let bad : None ≡ Some q = e in cc)
      had (Some h) e at = (h, at, (let same : q ≡ c.new h = cc in same))

  moved : (q : List ℕ) (n : Node) → node_at t q ≡ Some n → (n' : Node) × (node_at t' (c.new q) ≡ Some n') × IsMovedNode c.new n n'
  moved q n is = some_and (node_at t' (c.new q)) (IsMovedNode c.new n) (c.moved.there q n is)

  injective : (p q : List ℕ) (m n : Node) → node_at t p ≡ Some m → node_at t q ≡ Some n → c.new p ≡ c.new q → p ≡ q
  injective p q m n is_m is_n e = c.moved.apart p q (ap is_some is_m) (ap is_some is_n) e

  names_moved : (q : List ℕ) (m : Names) → names_at t q ≡ Some m → MovedNames c.new m (names_at t' (c.new q))
  names_moved q m is =
      let n = and_then_some (λ (n : Node). names_in n.content) (node_at t q) m is in
      let x = moved q n.0 n.1 in
      let k = moved_content c.new n.0.content x.0.content m x.2.content n.2 in
      record { names = k.names; is = names_at-node t' (c.new q) x.0 x.1 ∙ k.is; leads = k.leads }

  -- a node of the new tree was one of the old
  origin : (q : List ℕ) (n' : Node) → node_at t' q ≡ Some n' → (p : List ℕ) × (q ≡ c.new p) × (n : Node) × (node_at t p ≡ Some n) × (n'.number ≡ n.number)
  origin q n' is =
      let b = c.moved.back q (ap is_some is) in
      let n = some_of (node_at t b.0) b.2 in
      let x = moved b.0 n.0 n.1 in
      (b.0, b.1, n.0, n.1, ap (λ (n : Node). n.number) (some_same is (ap (node_at t') b.1 ∙ x.1)) ∙ x.2.number)

  placed : Placed t' table'
  placed =
      let r = names_moved t.root (root_names st.placed.export st.placed.staging) st.placed.root_has in
      let g = names_moved st.placed.staging empty st.placed.staging_has in
      let rn = root_node t table st.placed in
      let gn = staging_node t table st.placed in
      record {
        export = c.new st.placed.export;
        staging = c.new st.placed.staging;
        root_has = ap (names_at t') c.moved.root ∙ r.is ∙ ap Some (same_answers r.names (root_names (c.new st.placed.export) (c.new st.placed.staging)) (λ x.
            r.leads x ∙ ap (option_map c.new) (get-root_names st.placed.export st.placed.staging x)
            ∙ two c.new (eq_by_cmp (slice_cmp nat_cmp) x staging_name) (eq_by_cmp (slice_cmp nat_cmp) x export_name) st.placed.staging st.placed.export
            ∙ sym (get-root_names (c.new st.placed.export) (c.new st.placed.staging) x)));
        staging_has = g.is ∙ ap Some (same_answers g.names empty (λ x. g.leads x ∙ ap (option_map c.new) (get-empty (slice_cmp nat_cmp) x) ∙ sym (get-empty (slice_cmp nat_cmp) x)));
        root_apart = λ e. st.placed.root_apart (injective st.placed.staging t.root gn.0 rn.0 gn.1 rn.1 (e ∙ c.moved.root));
        is_export = kept 0 st.placed.export st.placed.is_export;
        by_handle = c.by_handle;
        apart = λ k q is.
            let h = was k q is in
            let n = handle_node s table A st k h.0 h.1 in
            let x = st.placed.apart k h.0 h.1 in
            ((λ e. x.0 (injective h.0 t.root n.0 rn.0 n.1 rn.1 (sym h.2 ∙ e ∙ c.moved.root))), (λ e. x.1 (injective h.0 st.placed.staging n.0 gn.0 n.1 gn.1 (sym h.2 ∙ e))));
        covered = covered;
        numbers = λ a b m n is_m is_n same.
            let x = origin a m is_m in
            let y = origin b n is_n in
            x.1 ∙ ap c.new (st.placed.numbers x.0 y.0 x.2 y.2 x.3 y.3 (sym x.4 ∙ same ∙ y.4)) ∙ sym y.1;
      }
    where
      covered : (q : List ℕ) (n : Node) → node_at t' q ≡ Some n → (q ≡ t'.root) ⊎ ((q ≡ c.new st.placed.staging) ⊎ ((k : ℕ) × (handle_at table'.rows.items k ≡ Some q)))
      covered q n is = let o = origin q n is in elim (st.placed.covered o.0 o.2 o.3) as (λ _. (q ≡ t'.root) ⊎ ((q ≡ c.new st.placed.staging) ⊎ ((k : ℕ) × (handle_at table'.rows.items k ≡ Some q)))) [
        | inl e ↦ inl (o.1 ∙ ap c.new e ∙ sym c.moved.root)
        | inr x ↦ inr (elim x as (λ _. (q ≡ c.new st.placed.staging) ⊎ ((k : ℕ) × (handle_at table'.rows.items k ≡ Some q))) [
          | inl e ↦ inl (o.1 ∙ ap c.new e)
          | inr y ↦ inr (y.0, kept y.0 o.0 y.1 ∙ ap Some (sym o.1))
        ])
      ]

  holds : (r : ConfEntry) (o : Object) (a : Attr) → ((n n' : Node) → IsMovedNode c.new n n' → SameContent table.rows.items o n.content → SameContent table'.rows.items o n'.content) →
      Holds t table.rows.items r o a → Holds t' table'.rows.items (record r { handle = option_map c.new r.handle }) o a
  holds r o a content k =
      let x = moved k.handle k.node k.is_node in
      record {
        handle = c.new k.handle;
        node = x.0;
        is_handle = ap (option_map c.new) k.is_handle;
        is_node = x.1;
        attr = record { number = k.attr.number ∙ sym x.2.number; mode = x.2.mode ∙ k.attr.mode; uid = x.2.uid ∙ k.attr.uid; gid = x.2.gid ∙ k.attr.gid; atime = k.attr.atime; mtime = k.attr.mtime; ctime = k.attr.ctime };
        content = content k.node x.0 x.2 k.content;
      }

  same_bytes : (b : List ℕ) (n n' : Node) → IsMovedNode c.new n n' → n.content ≡ BytesOf b → n'.content ≡ BytesOf b
  same_bytes b n n' k is = subst (λ x. IsMovedContent c.new x n'.content) is k.content

  same_text : (b : List ℕ) (n n' : Node) → IsMovedNode c.new n n' → n.content ≡ TextOf b → n'.content ≡ TextOf b
  same_text b n n' k is = subst (λ x. IsMovedContent c.new x n'.content) is k.content

  same_names : (names : List NameRow) (n n' : Node) → IsMovedNode c.new n n' → IsSomeAnd (names_in n.content) (SameNames table.rows.items names) → IsSomeAnd (names_in n'.content) (SameNames table'.rows.items names)
  same_names names n n' k is =
      let m = some_and (names_in n.content) (SameNames table.rows.items names) is in
      let m' = moved_content c.new n.content n'.content m.0 k.content m.1 in
      is_some_and (SameNames table'.rows.items names) m'.is (λ x. subst (λ o. Leads table'.rows.items o (row_of x names)) (sym (m'.leads x)) (leads_moved table.rows.items table'.rows.items c.new kept (get m.0 x) (row_of x names) (m.2 x)))

  object : (r : ConfEntry) (o : Object) → IsObject t table.rows.items r o → IsObject t' table'.rows.items (record r { handle = option_map c.new r.handle }) o
  object r Null k = ap (option_map c.new) k
  object r (File a b) k = holds r (File a b) a (same_bytes b) k
  object r (Link a b) k = holds r (Link a b) a (same_text b) k
  object r (Dir a names) k = holds r (Dir a names) a (same_names names) k

  -- handles that a reboot gave
  pub stands_rebooted : s' ≡ Some t' → Stands s' table' A
  stands_rebooted has = record {
    tree = t';
    has_tree = has;
    placed = placed;
    size = c.size ∙ st.size;
    each = λ i r' e is_r is_e.
        let r = slice_get-along table'.rows.items table.rows.items i r' c.size is_r in
        let old = st.each i r.0 e r.1 is_e in
        let now : RowIs t' table'.rows.items A i (record r.0 { handle = option_map c.new r.0.handle }) e = record { generation = old.generation; object = object r.0 e.object old.object; parent = old.parent } in
        subst (λ r. RowIs t' table'.rows.items A i r e) (some_same (c.rows i r.0 r.1) is_r) now;
  }
