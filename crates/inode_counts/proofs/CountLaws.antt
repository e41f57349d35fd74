-- The counts of a table of inodes, after a directory gets or loses a name.
use Rattle.std.proofs.Common.{inl, inr, ◌≡◌, ◌≢◌, ℕ, ◌+◌, arith, Bool, true, false, List, Option, Some, None, IsSome, refl, sym, ap, ◌∙◌, subst}
use Rattle.std.specs.Prelude.{bytes_eq}
use Rattle.std.specs.FinMap.{get, insert, remove}
use Rattle.std.proofs.lemmas.Slice.Eq.{bytes_eq-Decides}
use Rattle.server_trait.specs.Tree.{Tree, Node, Names, NamesOf, node_at, names_in, is_dir_at, one_if, links, subdirs, used, named, unnamed}
use Rattle.server_trait.proofs.TreeLaws.{bytes_or_not, one_or_not, some_same, names_at-node}
use Rattle.server_trait.proofs.CountLaws.{links-named, subdirs-same, subdirs-insert_new}
use Rattle.tree_laws.proofs.CountChanges.{links-unnamed, subdirs-remove, used-named, used-unnamed}
use Rattle.inode_dirs.specs.Slots.{Slots, names_of}
use Rattle.inode_dirs.specs.Table.{Body, FileBytes, LinkText, DirSlots, Entry, Table, content_of, node_of, tree_of, AreApart}
use Rattle.inode_dirs.proofs.TableLaws.{IsSameBut, node-used, node-same, tree-slots}
use Rattle.inode_counts.specs.Counts.{Counts}
use Rattle.inode_counts.specs.Changes.{CountsNamed, CountsUnnamed}
use Rattle.inode_counts.specs.Counted.{IsCounted}

bytes_same : (a b : List ℕ) → a ≡ b → bytes_eq a b ≡ true
bytes_same a b same = (bytes_eq-Decides a b).1 same

pub bytes_differ : (a b : List ℕ) → a ≢ b → bytes_eq a b ≡ false
bytes_differ a b ne = elim (bytes_eq a b) as (λ x. bytes_eq a b ≡ x → x ≡ false) [
  | true ↦ λ t. absurd (ne ((bytes_eq-Decides a b).0 t))
  | false ↦ λ _. refl
] refl

-- THE SLOTS OF ONE DIRECTORY CHANGE

module _ (handle : ℕ → List ℕ) (n : ℕ) (t t' : Table) (apart : AreApart handle n t) (apart' : AreApart handle n t')
    (i : ℕ) (same : IsSameBut t t' i) (e : Entry) (ss ss' : Slots) (is : t i ≡ Some e) (has : e.body ≡ DirSlots ss)
    (is' : t' i ≡ Some (record e { body = DirSlots ss' })) where
  abbrev before : Tree
  before = tree_of handle n t

  abbrev after : Tree
  after = tree_of handle n t'

  -- the node of the directory, and its names
  here : node_at before (handle i) ≡ Some (node_of handle i e)
  here = node-used handle n t apart i e is

  names_here : (node_of handle i e).content ≡ NamesOf (names_of handle ss)
  names_here = ap (content_of handle) has

  dir_before : is_dir_at before (handle i) ≡ true
  dir_before = ap (λ o. elim o as (λ _. Bool) [ None ↦ false | Some m ↦ true ])
      (names_at-node before (handle i) (node_of handle i e) here ∙ ap names_in names_here)

  dir_after : is_dir_at after (handle i) ≡ true
  dir_after = ap (λ o. elim o as (λ _. Bool) [ None ↦ false | Some m ↦ true ])
      (names_at-node after (handle i) (node_of handle i (record e { body = DirSlots ss' }))
      (node-used handle n t' apart' i (record e { body = DirSlots ss' }) is'))

  -- the same nodes are directories
  pub dirs-same : (q : List ℕ) → is_dir_at after q ≡ is_dir_at before q
  dirs-same q = elim (bytes_or_not q (handle i)) as (λ _. is_dir_at after q ≡ is_dir_at before q) [
    | inl at ↦ subst (λ q. is_dir_at after q ≡ is_dir_at before q) (sym at) (dir_after ∙ sym dir_before)
    | inr ne ↦ ap (λ o. is_dir (option_names o)) (node-same handle n t t' apart apart' i same q ne)
  ]
    where
      option_names : Option Node → Option Names
      option_names None = None
      option_names (Some x) = names_in x.content

      is_dir : Option Names → Bool
      is_dir None = false
      is_dir (Some m) = true

  subdirs-kept : (m : Names) → subdirs after m ≡ subdirs before m
  subdirs-kept m = subdirs-same after before m (λ _ h _. dirs-same h)

  -- an inode that is used was, and is another directory only where it was
  was_used : (k : ℕ) → IsSome (t' k) → IsSome (t k)
  was_used k some = elim (one_or_not k i) as (λ _. IsSome (t k)) [
    | inl at ↦ subst (λ o. IsSome o) (sym (ap t at ∙ is)) refl
    | inr ne ↦ subst (λ o. IsSome o) (same k ne) some
  ]

  its_slots : (x : Entry) (xs : Slots) → t' i ≡ Some x → x.body ≡ DirSlots xs → ss' ≡ xs
  its_slots x xs at body = slots_same (ap (λ (e : Entry). e.body) (some_same is' at) ∙ body)
    where
      slots_of_body : Body → Slots
      slots_of_body (FileBytes b) = ss'
      slots_of_body (LinkText b) = ss'
      slots_of_body (DirSlots xs) = xs

      slots_same : DirSlots ss' ≡ DirSlots xs → ss' ≡ xs
      slots_same q = ap slots_of_body q

  -- A NAME MORE

  module _ (name : List ℕ) (j : ℕ) (used_j : IsSome (t j)) (new : get (names_of handle ss) name ≡ None)
      (names : names_of handle ss' ≡ insert (names_of handle ss) name (handle j)) (c c' : Counts)
      (counted : IsCounted handle n t c)
      (change : CountsNamed c c' i j (is_dir_at before (handle j))) where
    pub tree-named : after ≡ named before (handle i) name (handle j)
    tree-named = tree-slots handle n t t' apart apart' i same e ss ss' (λ m. insert m name (handle j)) is has is' names

    pub counted-named : IsCounted handle n t' c'
    counted-named = record {
      links_are = λ k some.
          let all = ap (λ t. links t (handle k)) tree-named ∙ links-named before (handle i) name (handle j)
          (node_of handle i e) (names_of handle ss) (handle k) here names_here new in
          let was = counted.links_are k (was_used k some) in
          elim (one_or_not k j) as (λ _. c'.links k ≡ links after (handle k)) [
            | inl at ↦
                let one : one_if (bytes_eq (handle j) (handle k)) ≡ 1 = ap one_if (bytes_same (handle j) (handle k)
                (ap handle (sym at))) in
                let more : c'.links k ≡ c.links k + 1 = subst (λ k. c'.links k ≡ c.links k + 1) (sym at)
                change.links_here in
                omega (arith, all, was, one, more)
            | inr ne ↦
                let none : one_if (bytes_eq (handle j) (handle k)) ≡ 0 = ap one_if (bytes_differ (handle j) (handle k)
                (λ s. ne (sym (apart.apart j k used_j (was_used k some) s)))) in
                let kept = change.links_other k ne in
                omega (arith, all, was, none, kept)
          ];
      subdirs_are = λ k x xs at body. elim (one_or_not k i) as (λ _. c'.subdirs k ≡ subdirs after
          (names_of handle xs)) [
            | inl at_i ↦
                let slots : ss' ≡ xs = its_slots x xs (ap t' (sym at_i) ∙ at) body in
                let more = subdirs-insert_new after (names_of handle ss) name (handle j) new in
                let there : one_if (is_dir_at after (handle j)) ≡ one_if (is_dir_at before (handle j)) = ap one_if
                (dirs-same (handle j)) in
                let old = subdirs-kept (names_of handle ss) in
                let was = counted.subdirs_are i e ss is has in
                let changed : c'.subdirs i ≡ subdirs after (insert (names_of handle ss) name (handle j)) =
                omega (arith, more, there, old, was, change.subdirs_here) in
                subst (λ k. c'.subdirs k ≡ subdirs after (names_of handle xs)) (sym at_i)
                (changed ∙ ap (subdirs after) (sym names) ∙ ap (λ xs. subdirs after (names_of handle xs)) slots)
            | inr ne ↦ change.subdirs_other k ne ∙ counted.subdirs_are k x xs (sym (same k ne) ∙ at) body
                ∙ sym (subdirs-kept (names_of handle xs))
          ];
      used_is =
          let all = ap used tree-named ∙ used-named before (handle i) name (node_of handle i e) (names_of handle ss)
          here names_here (handle j) new in
          let was = counted.used_is in
          omega (arith, all, was, change.used);
    }

  -- A NAME LESS

  module _ (name : List ℕ) (j : ℕ) (used_j : IsSome (t j)) (leads : get (names_of handle ss) name ≡ Some (handle j))
      (names : names_of handle ss' ≡ remove (names_of handle ss) name) (c c' : Counts) (counted : IsCounted handle n t
      c)
      (counts : CountsUnnamed c c' i j (is_dir_at before (handle j))) where
    pub tree-unnamed : after ≡ unnamed before (handle i) name
    tree-unnamed = tree-slots handle n t t' apart apart' i same e ss ss' (λ m. remove m name) is has is' names

    pub counted-unnamed : IsCounted handle n t' c'
    counted-unnamed = record {
      links_are = λ k some.
          let change = links-unnamed before (handle i) name (handle j) (node_of handle i e) (names_of handle ss)
          (handle k) here names_here leads in
          let all : links after (handle k) ≡ links (unnamed before (handle i) name) (handle k) =
          ap (λ t. links t (handle k)) tree-unnamed in
          let was = counted.links_are k (was_used k some) in
          elim (one_or_not k j) as (λ _. c'.links k ≡ links after (handle k)) [
            | inl at ↦
                let one : one_if (bytes_eq (handle j) (handle k)) ≡ 1 = ap one_if (bytes_same (handle j) (handle k)
                (ap handle (sym at))) in
                let less : c'.links k + 1 ≡ c.links k = subst (λ k. c'.links k + 1 ≡ c.links k) (sym at)
                counts.links_here in
                omega (arith, all, change, was, one, less)
            | inr ne ↦
                let none : one_if (bytes_eq (handle j) (handle k)) ≡ 0 = ap one_if (bytes_differ (handle j) (handle k)
                (λ s. ne (sym (apart.apart j k used_j (was_used k some) s)))) in
                let kept = counts.links_other k ne in
                omega (arith, all, change, was, none, kept)
          ];
      subdirs_are = λ k x xs at body. elim (one_or_not k i) as (λ _. c'.subdirs k ≡ subdirs after
          (names_of handle xs)) [
            | inl at_i ↦
                let slots : ss' ≡ xs = its_slots x xs (ap t' (sym at_i) ∙ at) body in
                let less = subdirs-remove before (names_of handle ss) name (handle j) leads in
                let old = subdirs-kept (remove (names_of handle ss) name) in
                let was = counted.subdirs_are i e ss is has in
                let changed : c'.subdirs i ≡ subdirs after (remove (names_of handle ss) name) = omega (
                  arith,
                  less,
                  old,
                  was,
                  counts.subdirs_here,
                ) in
                subst (λ k. c'.subdirs k ≡ subdirs after (names_of handle xs)) (sym at_i)
                (changed ∙ ap (subdirs after) (sym names) ∙ ap (λ xs. subdirs after (names_of handle xs)) slots)
            | inr ne ↦ counts.subdirs_other k ne ∙ counted.subdirs_are k x xs (sym (same k ne) ∙ at) body
                ∙ sym (subdirs-kept (names_of handle xs))
          ];
      used_is =
          let all : used after ≡ used (unnamed before (handle i) name) = ap used tree-unnamed in
          let change = used-unnamed before (handle i) name (node_of handle i e) (names_of handle ss) here names_here
          (handle j) leads in
          let was = counted.used_is in
          omega (arith, all, change, was, counts.used);
    }
