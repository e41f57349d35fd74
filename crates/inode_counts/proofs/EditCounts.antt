-- The counts of a table of inodes, after an inode gets other attributes or other bytes, and of an empty table.
use Rattle.std.proofs.Common.{inl, inr, ◌≡◌, ◌≢◌, ℕ, arith, Bool, true, false, List, Option, Some, None, IsSome, refl, sym, ap, ◌∙◌, subst}
use Rattle.std.specs.Cmp.Lexicographic.{nat_list_cmp_total}
use Rattle.server_trait.specs.Tree.{Tree, Node, Names, node_at, names_in, is_dir_at, links, names_to, subdirs, used, used_by, edited}
use Rattle.server_trait.proofs.TreeLaws.{bytes_or_not, one_or_not, some_none, some_same, used-edited, names_at-node}
use Rattle.server_trait.proofs.SumLaws.{total-none}
use Rattle.server_trait.proofs.CountLaws.{links-edited, subdirs-same}
use Rattle.inode_dirs.specs.Slots.{Slots, names_of}
use Rattle.inode_dirs.specs.Table.{DirSlots, Entry, Table, content_of, node_of, tree_of, AreApart}
use Rattle.inode_dirs.proofs.TableLaws.{IsSameBut, node-used, node-none, node-same, tree-edited}
use Rattle.inode_counts.specs.Counts.{Counts}
use Rattle.inode_counts.specs.Changes.{CountsResized}
use Rattle.inode_counts.specs.Counted.{IsCounted}

-- AN INODE CHANGES, BUT NOT ITS NAMES

module _ (handle : ℕ → List ℕ) (n : ℕ) (t t' : Table) (apart : AreApart handle n t) (apart' : AreApart handle n t')
    (i : ℕ) (same : IsSameBut t t' i) (e e' : Entry) (is : t i ≡ Some e) (is' : t' i ≡ Some e')
    (names : names_in (content_of handle e'.body) ≡ names_in (content_of handle e.body))
    (led : (q : List ℕ) → names_to q (content_of handle e'.body) ≡ names_to q (content_of handle e.body))
    (slots : (ss : Slots) → e'.body ≡ DirSlots ss → e.body ≡ DirSlots ss) where
  abbrev before : Tree
  before = tree_of handle n t

  abbrev after : Tree
  after = tree_of handle n t'

  pub tree-changed : after ≡ edited before (handle i) (λ _. node_of handle i e')
  tree-changed = tree-edited handle n t t' apart apart' i same e e' (λ _. node_of handle i e') is is' refl

  abbrev is_dir : Option Names → Bool
  is_dir o = elim o as (λ _. Bool) [ None ↦ false | Some m ↦ true ]

  option_names : Option Node → Option Names
  option_names None = None
  option_names (Some x) = names_in x.content

  here : is_dir_at after (handle i) ≡ is_dir_at before (handle i)
  here = ap is_dir (names_at-node after (handle i) (node_of handle i e') (node-used handle n t' apart' i e' is') ∙ names
      ∙ sym (names_at-node before (handle i) (node_of handle i e) (node-used handle n t apart i e is)))

  there : (q : List ℕ) → q ≢ handle i → is_dir_at after q ≡ is_dir_at before q
  unfolding option_names
  there q ne = ap (λ o. is_dir_of (option_names o)) (node-same handle n t t' apart apart' i same q ne)
    where
      is_dir_of : Option Names → Bool
      is_dir_of None = false
      is_dir_of (Some m) = true

  dirs-same : (q : List ℕ) → is_dir_at after q ≡ is_dir_at before q
  dirs-same q = elim (bytes_or_not q (handle i)) as (λ _. is_dir_at after q ≡ is_dir_at before q) [
    | inl at ↦ subst (λ q. is_dir_at after q ≡ is_dir_at before q) (sym at) here
    | inr ne ↦ there q ne
  ]

  links-same : (q : List ℕ) → links after q ≡ links before q
  links-same q =
      let all : links after q ≡ links (edited before (handle i) (λ _. node_of handle i e')) q = ap (λ t. links t q)
      tree-changed in
      let change = links-edited before (handle i) (λ _. node_of handle i e') (node_of handle i e) q
      (node-used handle n t apart i e is) in
      let as_many = led q in
      omega (arith, all, change, as_many)

  module _ (c c' : Counts) (counted : IsCounted handle n t c)
      (counts : CountsResized c c' (used_by (content_of handle e.body)) (used_by (content_of handle e'.body))) where
    was_used : (k : ℕ) → IsSome (t' k) → IsSome (t k)
    was_used k some = elim (one_or_not k i) as (λ _. IsSome (t k)) [
      | inl at ↦ subst (λ o. IsSome o) (sym (ap t at ∙ is)) refl
      | inr ne ↦ subst (λ o. IsSome o) (same k ne) some
    ]

    pub counted-changed : IsCounted handle n t' c'
    counted-changed = record {
      links_are = λ k some. counts.links k ∙ counted.links_are k (was_used k some) ∙ sym (links-same (handle k));
      subdirs_are = λ k x xs at body.
          let kept : subdirs after (names_of handle xs) ≡ subdirs before (names_of handle xs) = subdirs-same after
          before (names_of handle xs) (λ _ h _. dirs-same h) in
          elim (one_or_not k i) as (λ _. c'.subdirs k ≡ subdirs after (names_of handle xs)) [
            | inl at_i ↦
                let old : e.body ≡ DirSlots xs = slots xs (ap (λ (e : Entry). e.body) (some_same is' (ap t' (sym at_i)
                ∙ at)) ∙ body) in
                counts.subdirs k ∙ counted.subdirs_are k e xs (ap t at_i ∙ is) old ∙ sym kept
            | inr ne ↦ counts.subdirs k ∙ counted.subdirs_are k x xs (sym (same k ne) ∙ at) body ∙ sym kept
          ];
      used_is =
          let all : used after ≡ used (edited before (handle i) (λ _. node_of handle i e')) = ap used tree-changed in
          let change = used-edited before (handle i) (λ _. node_of handle i e') (node_of handle i e)
          (node-used handle n t apart i e is) in
          let was = counted.used_is in
          omega (arith, all, change, was, counts.used);
    }

-- NO INODES

abbrev pub no_inodes : Table
no_inodes _ = None

-- what a mount begins with
module _ (handle : ℕ → List ℕ) (n : ℕ) where
  pub apart-none : AreApart handle n no_inodes
  apart-none = record {
    apart = λ i j some _ _. absurd (let bad : false ≡ true = some in cc);
    within = λ i some. absurd (let bad : false ≡ true = some in cc);
  }

  no_nodes : (q : List ℕ) → node_at (tree_of handle n no_inodes) q ≡ None
  no_nodes q = node-none handle n no_inodes apart-none q (λ i some. absurd (let bad : false ≡ true = some in cc))

  used-none : used (tree_of handle n no_inodes) ≡ 0
  unfolding used
  used-none = total-none nat_list_cmp_total (λ (x : Node). used_by x.content) (tree_of handle n no_inodes).nodes
      (λ q x is. absurd (some_none is (no_nodes q)))

  pub counted-none : (c : Counts) → c.used ≡ 0 → IsCounted handle n no_inodes c
  counted-none c none = record {
    links_are = λ i some. absurd (let bad : false ≡ true = some in cc);
    subdirs_are = λ i e ss at _. absurd (let bad : None ≡ Some e = at in cc);
    used_is = none ∙ sym used-none;
  }
