-- The counts of a table of inodes, after an inode is made without names, freed, or gets other bytes or attributes.
use Rattle.std.proofs.Common.{inl, inr, ◌≡◌, ◌≢◌, ℕ, ◌+◌, arith, Bool, true, false, List, Option, Some, None, IsSome, refl, sym, ap, ◌∙◌, subst}
use Rattle.std.specs.Prelude.{bytes_eq}
use Rattle.std.specs.Cmp.Lexicographic.{nat_list_cmp_total}
use Rattle.server_trait.specs.Tree.{Tree, Node, Names, node_at, names_in, is_dir_at, one_if, links, names_to, subdirs, used, used_by, with_node, without_node}
use Rattle.server_trait.proofs.TreeLaws.{one_or_not, some_same, total-remove}
use Rattle.server_trait.proofs.SumLaws.{total-insert_new, total-none}
use Rattle.server_trait.proofs.CountLaws.{links-with_node, subdirs-same}
use Rattle.tree_laws.proofs.CountChanges.{links-without_node}
use Rattle.inode_dirs.specs.Slots.{Slots, names_of}
use Rattle.inode_dirs.specs.Table.{Body, FileBytes, LinkText, DirSlots, Entry, Table, content_of, node_of, tree_of, AreApart}
use Rattle.inode_dirs.proofs.TableLaws.{IsSameBut, node-used, node-none, node-from, node-same, tree-made, tree-freed}
use Rattle.inode_counts.specs.Counts.{Counts}
use Rattle.inode_counts.specs.Changes.{CountsNew, CountsFreed}
use Rattle.inode_counts.specs.Counted.{IsCounted, AreLed}
use Rattle.inode_counts.proofs.CountLaws.{bytes_differ}

used-with_node : (t : Tree) (h : List ℕ) (x : Node) → node_at t h ≡ None → used (with_node t h x) ≡ used t + used_by
    x.content
unfolding used
used-with_node t h x none = let e = total-insert_new nat_list_cmp_total (λ (n : Node). used_by n.content) t.nodes h x
    none in omega (arith, e)

used-without_node : (t : Tree) (h : List ℕ) (x : Node) → node_at t h ≡ Some x → used (without_node t h) + used_by
    x.content ≡ used t
unfolding used
used-without_node t h x is = let e = total-remove (λ (n : Node). used_by n.content) t.nodes h x is in omega (arith, e)

-- a node's names lead to used inodes, so to no other handle
module _ (handle : ℕ → List ℕ) (n : ℕ) (t : Table) (apart : AreApart handle n t) (led : AreLed handle t)
    (q : List ℕ) (free : (j : ℕ) → IsSome (t j) → handle j ≢ q) where
  none_to : (b : Body) (i : ℕ) (e : Entry) → t i ≡ Some e → e.body ≡ b → names_to q (content_of handle b) ≡ 0
  none_to (FileBytes b) i e is has = refl
  none_to (LinkText b) i e is has = refl
  none_to (DirSlots ss) i e is has = total-none nat_list_cmp_total (λ x. one_if (bytes_eq x q)) (names_of handle ss)
      (λ name h leads.
      let to = led i e ss name h is has leads in
      ap one_if (bytes_differ h q (λ s. free to.0 to.1 (to.2 ∙ s))))

  -- no name leads to such a handle
  pub links-free : links (tree_of handle n t) q ≡ 0
  unfolding links
  links-free = total-none nat_list_cmp_total (λ (x : Node). names_to q x.content) (tree_of handle n t).nodes (λ h x is.
      let r = node-from handle n t apart h x is in
      ap (λ (x : Node). names_to q x.content) (sym r.4) ∙ none_to r.1.body r.0 r.1 r.2 refl)

-- AN INODE IS MADE

module _ (handle : ℕ → List ℕ) (n : ℕ) (t t' : Table) (apart : AreApart handle n t) (apart' : AreApart handle n t')
    (led : AreLed handle t) (i : ℕ) (same : IsSameBut t t' i) (e : Entry) (free : t i ≡ None) (is' : t' i ≡ Some e)
    (bare : (q : List ℕ) → names_to q (content_of handle e.body) ≡ 0)
    (bare_dirs : (t : Tree) (ss : Slots) → e.body ≡ DirSlots ss → subdirs t (names_of handle ss) ≡ 0) where
  abbrev before : Tree
  before = tree_of handle n t

  abbrev after : Tree
  after = tree_of handle n t'

  is_after : after ≡ with_node before (handle i) (node_of handle i e)
  is_after = tree-made handle n t t' apart apart' i same e is'

  some_now : (j : ℕ) → IsSome (t j) → (j ≢ i) × IsSome (t' j)
  some_now j some =
      let ne : j ≢ i = λ at. absurd (let bad : false ≡ true = subst (λ o. is_some_of o ≡ true) (ap t at ∙ free)
      (some_is (t j) some) in cc) in
      (ne, subst (λ o. IsSome o) (sym (same j ne)) some)
    where
      is_some_of : Option Entry → Bool
      is_some_of None = false
      is_some_of (Some x) = true

      some_is : (o : Option Entry) → IsSome o → is_some_of o ≡ true
      some_is None h = absurd (let bad : false ≡ true = h in cc)
      some_is (Some x) h = refl

  -- the new handle is no used inode's
  fresh : (j : ℕ) → IsSome (t j) → handle j ≢ handle i
  fresh j some at = let now = some_now j some in now.0 (apart'.apart j i now.1 (subst (λ o. IsSome o) (sym is') refl)
      at)

  none_there : node_at before (handle i) ≡ None
  none_there = node-none handle n t apart (handle i) fresh

  dirs-same : (q : List ℕ) → q ≢ handle i → is_dir_at after q ≡ is_dir_at before q
  dirs-same q ne = ap (λ o. is_dir (option_names o)) (node-same handle n t t' apart apart' i same q ne)
    where
      option_names : Option Node → Option Names
      option_names None = None
      option_names (Some x) = names_in x.content

      is_dir : Option Names → Bool
      is_dir None = false
      is_dir (Some m) = true

  module _ (c c' : Counts) (counted : IsCounted handle n t c) (counts : CountsNew c c' i
      (used_by (content_of handle e.body))) where
    pub counted-made : IsCounted handle n t' c'
    counted-made = record {
      links_are = λ k some.
          let all = ap (λ t. links t (handle k)) is_after ∙ links-with_node before (handle i) (node_of handle i e)
          (handle k) none_there in
          let no_more = bare (handle k) in
          elim (one_or_not k i) as (λ _. c'.links k ≡ links after (handle k)) [
            | inl at ↦
                let none : links before (handle k) ≡ 0 = ap (λ k. links before (handle k)) at ∙ links-free handle n t
                apart led (handle i) fresh in
                let count : c'.links k ≡ 0 = ap c'.links at ∙ counts.links_here in
                omega (arith, all, no_more, none, count)
            | inr ne ↦
                let was = counted.links_are k (subst (λ o. IsSome o) (same k ne) some) in
                let kept = counts.links_other k ne in
                omega (arith, all, no_more, was, kept)
          ];
      subdirs_are = λ k x xs at body. elim (one_or_not k i) as (λ _. c'.subdirs k ≡ subdirs after
          (names_of handle xs)) [
            | inl at_i ↦ ap c'.subdirs at_i ∙ counts.subdirs_here
                ∙ sym (bare_dirs after xs (ap (λ (e : Entry). e.body) (some_same is' (ap t' (sym at_i) ∙ at)) ∙ body))
            | inr ne ↦
                let was = sym (same k ne) ∙ at in
                counts.subdirs_other k ne ∙ counted.subdirs_are k x xs was body
                ∙ sym (subdirs-same after before (names_of handle xs) (λ name h leads.
                let to = led k x xs name h was body leads in
                dirs-same h (λ at. fresh to.0 to.1 (to.2 ∙ at))))
          ];
      used_is =
          let all = ap used is_after ∙ used-with_node before (handle i) (node_of handle i e) none_there in
          let was = counted.used_is in
          omega (arith, all, was, counts.used);
    }

-- AN INODE IS FREED

module _ (handle : ℕ → List ℕ) (n : ℕ) (t t' : Table) (apart : AreApart handle n t) (apart' : AreApart handle n t')
    (led' : AreLed handle t') (i : ℕ) (same : IsSameBut t t' i) (e : Entry) (is : t i ≡ Some e) (free' : t' i ≡ None)
    (bare : (q : List ℕ) → names_to q (content_of handle e.body) ≡ 0) where
  was_some : (j : ℕ) → IsSome (t' j) → (j ≢ i) × IsSome (t j)
  was_some j some =
      let ne : j ≢ i = λ at. no_some (subst (λ o. IsSome o) (ap t' at ∙ free') some) in
      (ne, subst (λ o. IsSome o) (same j ne) some)
    where
      no_some : IsSome {T = Entry} None → ⊥
      no_some h = (let bad : false ≡ true = h in cc)

  gone : (j : ℕ) → IsSome (t' j) → handle j ≢ handle i
  gone j some at = let was = was_some j some in was.0 (apart.apart j i was.1 (subst (λ o. IsSome o) (sym is) refl) at)

  freed : tree_of handle n t' ≡ without_node (tree_of handle n t) (handle i)
  freed = tree-freed handle n t t' apart apart' i same free' gone

  less_dirs : (q : List ℕ) → q ≢ handle i → is_dir_at (tree_of handle n t') q ≡ is_dir_at (tree_of handle n t) q
  less_dirs q ne = ap (λ o. is_dir (option_names o)) (node-same handle n t t' apart apart' i same q ne)
    where
      option_names : Option Node → Option Names
      option_names None = None
      option_names (Some x) = names_in x.content

      is_dir : Option Names → Bool
      is_dir None = false
      is_dir (Some m) = true

  module _ (c c' : Counts) (counted : IsCounted handle n t c) (counts : CountsFreed c c' i
      (used_by (content_of handle e.body))) where
    pub counted-freed : IsCounted handle n t' c'
    counted-freed = record {
      links_are = λ k some.
          let was = was_some k some in
          let all : links (tree_of handle n t') (handle k) ≡ links (without_node (tree_of handle n t) (handle i))
          (handle k) = ap (λ t. links t (handle k)) freed in
          let change = links-without_node (tree_of handle n t) (handle i) (node_of handle i e) (handle k)
          (node-used handle n t apart i e is) in
          let none = bare (handle k) in
          let count = counted.links_are k was.1 in
          let kept = counts.links_other k was.0 in
          omega (arith, all, change, none, count, kept);
      subdirs_are = λ k x xs at body.
          let was = was_some k (subst (λ o. IsSome o) (sym at) refl) in
          counts.subdirs_other k was.0 ∙ counted.subdirs_are k x xs (sym (same k was.0) ∙ at) body
          ∙ sym (subdirs-same (tree_of handle n t') (tree_of handle n t) (names_of handle xs) (λ name h leads.
          let to = led' k x xs name h at body leads in
          less_dirs h (λ s. gone to.0 to.1 (to.2 ∙ s))));
      used_is =
          let all : used (tree_of handle n t') ≡ used (without_node (tree_of handle n t) (handle i)) = ap used freed in
          let change = used-without_node (tree_of handle n t) (handle i) (node_of handle i e)
          (node-used handle n t apart i e is) in
          let was = counted.used_is in
          omega (arith, all, change, was, counts.used);
    }
