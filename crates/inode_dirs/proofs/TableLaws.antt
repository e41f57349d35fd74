-- The tree that a table of inodes holds: what it has under a handle, and what a change of one inode is.
use Rattle.std.proofs.Common.{◌⊎◌, inl, inr, ◌≡◌, ◌≢◌, ℕ, zero, suc, ◌<◌, arith, cond, List, Option, Some, None, IsSome, refl, sym, ap, ◌∙◌, subst}
use Rattle.std.specs.Ordering.{nat_cmp, is_eq}
use Rattle.std.specs.Cmp.Lexicographic.{slice_cmp, nat_list_cmp_total}
use Rattle.std.specs.FinMap.{find, get-from_entries}
use Rattle.server_trait.specs.Tree.{Node, Names, NamesOf, node_at, edited, with_names, with_node, without_node}
use Rattle.server_trait.proofs.TreeLaws.{bytes_or_not, one_or_not, some_none, some_same, other-keys, same-key_refl, get-insert_same, get-insert_other, get-remove_same, get-remove_other, root-edited, node_at-edited_same, node_at-edited_other}
use Rattle.server_trait.proofs.OrderLaws.{same_trees}
use Rattle.inode_dirs.specs.Slots.{Slots, names_of}
use Rattle.inode_dirs.specs.Table.{DirSlots, Entry, Table, content_of, node_of, row_of, rows_to, tree_of, AreApart}

-- LOOKING

module _ (handle : ℕ → List ℕ) (t : Table) where
  abbrev IsFoundBelow : ℕ → List ℕ → Node → Type 0
  IsFoundBelow n q x = (i : ℕ) × (e : Entry) × (i < n) × (t i ≡ Some e) × (handle i ≡ q) × (node_of handle i e ≡ x)

  abbrev row_found : ℕ → List ℕ → Option Node
  row_found n q = find (slice_cmp nat_cmp) q (rows_to handle t n)

  further : (n : ℕ) (q : List ℕ) (x : Node) → IsFoundBelow n q x → IsFoundBelow (suc n) q x
  further n q x r = (r.0, r.1, (let l = r.2 in omega (arith, l)), r.3, r.4, r.5)

  found_row : (n : ℕ) (q : List ℕ) (x : Node) → (row_found n q ≡ Some x → IsFoundBelow n q x) → (o : Option Entry) →
      t n ≡ o →
      find (slice_cmp nat_cmp) q (row_of handle n o (rows_to handle t n)) ≡ Some x → IsFoundBelow (suc n) q x
  found_row n q x below None none is = further n q x (below is)
  found_row n q x below (Some e) here is = elim (bytes_or_not q (handle n)) as (λ _. IsFoundBelow (suc n) q x) [
    | inl same ↦ (
      n,
      e,
      omega arith,
      here,
      sym same,
      some_same
          (ap (λ b. cond b (Some (node_of handle n e)) (row_found n q)) (ap (λ y. is_eq (slice_cmp nat_cmp q y))
          (sym same) ∙ same-key_refl q)) is,
    )
    | inr ne ↦ further n q x (below (sym (ap (λ b. cond b (Some (node_of handle n e)) (row_found n q))
        (other-keys q (handle n) ne)) ∙ is))
  ]

  found : (n : ℕ) (q : List ℕ) (x : Node) → row_found n q ≡ Some x → IsFoundBelow n q x
  unfolding rows_to
  found zero q x is = absurd (let bad : None ≡ Some x = is in cc)
  found (suc n) q x is = found_row n q x (found n q x) (t n) refl is

  missed_row : (n i : ℕ) (e : Entry) → i < suc n → t i ≡ Some e → (i < n → row_found n (handle i) ≡ None → ⊥) →
      (o : Option Entry) → t n ≡ o →
      find (slice_cmp nat_cmp) (handle i) (row_of handle n o (rows_to handle t n)) ≡ None → ⊥
  missed_row n i e l is below None unused none = below (lower (one_or_not i n)) none
    where
      lower : (i ≡ n) ⊎ (i ≢ n) → i < n
      lower (inl same) = absurd (some_none (ap t (sym same) ∙ is) unused)
      lower (inr ne) = omega (arith, ne, l)
  missed_row n i e l is below (Some x) here none = elim (bytes_or_not (handle i) (handle n)) as (λ _. ⊥) [
    | inl same ↦ some_none (ap (λ b. cond b (Some (node_of handle n x)) (row_found n (handle i)))
        (ap (λ y. is_eq (slice_cmp nat_cmp (handle i) y)) (sym same) ∙ same-key_refl (handle i))) none
    | inr ne ↦ below (lower ne (one_or_not i n))
        (sym (ap (λ b. cond b (Some (node_of handle n x)) (row_found n (handle i))) (other-keys (handle i) (handle n)
        ne)) ∙ none)
  ]
    where
      lower : handle i ≢ handle n → (i ≡ n) ⊎ (i ≢ n) → i < n
      lower ne (inl same) = absurd (ne (ap handle same))
      lower ne (inr differ) = omega (arith, differ, l)

  missed : (n i : ℕ) (e : Entry) → i < n → t i ≡ Some e → row_found n (handle i) ≡ None → ⊥
  unfolding rows_to
  missed zero i e l is none = omega (arith, l)
  missed (suc n) i e l is none = missed_row n i e l is (λ less. missed n i e less is) (t n) refl none

-- what stands under a handle
module _ (handle : ℕ → List ℕ) (n : ℕ) (t : Table) (apart : AreApart handle n t) where
  -- the node of a used inode
  pub node-used : (i : ℕ) (e : Entry) → t i ≡ Some e → node_at (tree_of handle n t) (handle i) ≡ Some
      (node_of handle i e)
  node-used i e is = get-from_entries nat_list_cmp_total (rows_to handle t n) (handle i)
      ∙ by (find (slice_cmp nat_cmp) (handle i) (rows_to handle t n)) refl
    where
      used : (j : ℕ) (x : Entry) → t j ≡ Some x → IsSome (t j)
      used j x s = subst (λ o. IsSome o) (sym s) refl

      by : (o : Option Node) → find (slice_cmp nat_cmp) (handle i) (rows_to handle t n) ≡ o →
          o ≡ Some (node_of handle i e)
      by None none = absurd (missed handle t n i e (apart.within i (used i e is)) is none)
      by (Some x) some =
          let r = found handle t n (handle i) x some in
          let same : r.0 ≡ i = apart.apart r.0 i (used r.0 r.1 r.3) (used i e is) r.4 in
          let entry : r.1 ≡ e = some_same (sym (ap t same) ∙ r.3) is in
          ap Some (sym r.5 ∙ ap (λ j. node_of handle j r.1) same ∙ ap (node_of handle i) entry)

  -- no other handle has one
  pub node-none : (q : List ℕ) → ((i : ℕ) → IsSome (t i) → handle i ≢ q) → node_at (tree_of handle n t) q ≡ None
  node-none q none = get-from_entries nat_list_cmp_total (rows_to handle t n) q
      ∙ by (find (slice_cmp nat_cmp) q (rows_to handle t n)) refl
    where
      by : (o : Option Node) → find (slice_cmp nat_cmp) q (rows_to handle t n) ≡ o → o ≡ None
      by None e = refl
      by (Some x) some = let r = found handle t n q x some in absurd (none r.0 (subst (λ o. IsSome o) (sym r.3) refl)
          r.4)

  -- a node is that of a used inode
  pub node-from : (q : List ℕ) (x : Node) → node_at (tree_of handle n t) q ≡ Some x →
      (i : ℕ) × (e : Entry) × (t i ≡ Some e) × (handle i ≡ q) × (node_of handle i e ≡ x)
  node-from q x is = let r = found handle t n q x (sym (get-from_entries nat_list_cmp_total (rows_to handle t n) q)
      ∙ is) in (r.0, r.1, r.3, r.4, r.5)

-- CHANGING ONE INODE

-- what used inodes hold is the same, but for one inode
abbrev pub IsSameBut : Table → Table → ℕ → Type 0
IsSameBut t t' i = (j : ℕ) → j ≢ i → t' j ≡ t j

module _ (handle : ℕ → List ℕ) (n : ℕ) (t t' : Table) (apart : AreApart handle n t) (apart' : AreApart handle n t')
    (i : ℕ) (same : IsSameBut t t' i) where
  used_some : (t : Table) (j : ℕ) (e : Entry) → t j ≡ Some e → IsSome (t j)
  used_some t j e is = subst (λ o. IsSome o) (sym is) refl

  -- under another handle stands what stood there
  pub node-same : (q : List ℕ) → q ≢ handle i → node_at (tree_of handle n t') q ≡ node_at (tree_of handle n t) q
  node-same q ne = by (node_at (tree_of handle n t) q) refl (node_at (tree_of handle n t') q) refl
    where
      other : (j : ℕ) → handle j ≡ q → j ≢ i
      other j is e = ne (sym is ∙ ap handle e)

      by : (o : Option Node) → node_at (tree_of handle n t) q ≡ o → (r : Option Node) → node_at (tree_of handle n t')
          q ≡ r → r ≡ o
      by None e None d = refl
      by None e (Some x) d =
          let r = node-from handle n t' apart' q x d in
          let here = node-used handle n t apart r.0 r.1 (sym (same r.0 (other r.0 r.3)) ∙ r.2) in
          absurd (some_none here (ap (node_at (tree_of handle n t)) r.3 ∙ e))
      by (Some y) e r d =
          let o = node-from handle n t apart q y e in
          let here = node-used handle n t' apart' o.0 o.1 (same o.0 (other o.0 o.3) ∙ o.2) in
          sym d ∙ ap (node_at (tree_of handle n t')) (sym o.3) ∙ here ∙ ap Some o.4

  -- a used inode holds something else
  pub tree-edited : (e e' : Entry) (f : Node → Node) → t i ≡ Some e → t' i ≡ Some e' → node_of handle i e' ≡ f
      (node_of handle i e) →
      tree_of handle n t' ≡ edited (tree_of handle n t) (handle i) f
  tree-edited e e' f is is' change = same_trees (tree_of handle n t') (edited (tree_of handle n t) (handle i) f)
      (sym (root-edited (tree_of handle n t) (handle i) f)) (λ q.
      elim (bytes_or_not q (handle i)) as (λ _. node_at (tree_of handle n t') q ≡ node_at (edited (tree_of handle n t)
      (handle i) f) q) [
        | inl at ↦ subst (λ q. node_at (tree_of handle n t') q ≡ node_at (edited (tree_of handle n t) (handle i) f) q)
            (sym at)
            (node-used handle n t' apart' i e' is' ∙ ap Some change
            ∙ sym (node_at-edited_same (tree_of handle n t) (handle i) f (node_of handle i e)
            (node-used handle n t apart i e is)))
        | inr ne ↦ node-same q ne ∙ sym (node_at-edited_other (tree_of handle n t) (handle i) f q ne)
      ])

  -- a free inode gets a node
  pub tree-made : (e : Entry) → t' i ≡ Some e → tree_of handle n t' ≡ with_node (tree_of handle n t) (handle i)
      (node_of handle i e)
  tree-made e is = same_trees (tree_of handle n t') (with_node (tree_of handle n t) (handle i) (node_of handle i e))
      refl (λ q.
      elim (bytes_or_not q (handle i)) as (λ _. node_at (tree_of handle n t') q ≡ node_at
      (with_node (tree_of handle n t) (handle i) (node_of handle i e)) q) [
        | inl at ↦ subst (λ q. node_at (tree_of handle n t') q ≡ node_at (with_node (tree_of handle n t) (handle i)
            (node_of handle i e)) q) (sym at)
            (node-used handle n t' apart' i e is ∙ sym (get-insert_same (tree_of handle n t).nodes (handle i)
            (node_of handle i e)))
        | inr ne ↦ node-same q ne ∙ sym (get-insert_other (tree_of handle n t).nodes (handle i) (node_of handle i e) q
            ne)
      ])

  -- an inode becomes free; no used inode has its handle
  pub tree-freed : t' i ≡ None → ((j : ℕ) → IsSome (t' j) → handle j ≢ handle i) →
      tree_of handle n t' ≡ without_node (tree_of handle n t) (handle i)
  tree-freed none gone = same_trees (tree_of handle n t') (without_node (tree_of handle n t) (handle i)) refl (λ q.
      elim (bytes_or_not q (handle i)) as (λ _. node_at (tree_of handle n t') q ≡ node_at
      (without_node (tree_of handle n t) (handle i)) q) [
        | inl at ↦ subst (λ q. node_at (tree_of handle n t') q ≡ node_at (without_node (tree_of handle n t)
            (handle i)) q) (sym at)
            (node-none handle n t' apart' (handle i) gone ∙ sym (get-remove_same (tree_of handle n t).nodes (handle i)))
        | inr ne ↦ node-same q ne ∙ sym (get-remove_other (tree_of handle n t).nodes (handle i) q ne)
      ])

  -- the slots of a directory become others, whose names are changed so
  pub tree-slots : (e : Entry) (ss ss' : Slots) (f : Names → Names) → t i ≡ Some e → e.body ≡ DirSlots ss →
      t' i ≡ Some (record e { body = DirSlots ss' }) → names_of handle ss' ≡ f (names_of handle ss) →
      tree_of handle n t' ≡ edited (tree_of handle n t) (handle i) (with_names f)
  tree-slots e ss ss' f is has is' names = tree-edited e (record e { body = DirSlots ss' }) (with_names f) is is' (
      ap (λ m. let x : Node = record { number = i; mode = e.mode; uid = e.uid; gid = e.gid; content = NamesOf m } in
      x) names
      ∙ sym (ap (λ b. with_names f (let x : Node = record {
        number = i;
        mode = e.mode;
        uid = e.uid;
        gid = e.gid;
        content = content_of handle b;
      } in x)) has))
