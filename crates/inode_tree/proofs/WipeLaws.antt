-- A root alone, after a medium is made anew.
use Rattle.std.proofs.Common.{inl, inr, ◌≡◌, ◌≢◌, ℕ, ◌<◌, ◌≤◌, arith, Bool, true, false, List, Option, Some, None, refl, sym, ap, ◌∙◌, subst}
use Rattle.std.specs.Option.{option_map}
use Rattle.std.specs.FinMap.{empty, insert, get-empty}
use Rattle.std.specs.Ordering.{nat_cmp}
use Rattle.std.specs.Cmp.Lexicographic.{slice_cmp}
use Rattle.nfs2_types.specs.declared.fattr.Kind.TheVariants.{Dir}
use Rattle.pointer_tree.specs.Tree.{Content as Blocks}
use Rattle.pointer_tree.specs.declared.node.Area.{Area}
use Rattle.server_trait.specs.Tree.{Tree, NamesOf, new_node}
use Rattle.server_trait.specs.declared.server.ServerLimits.{ServerLimits}
use Rattle.server_trait.proofs.TreeLaws.{one_or_not, same_answers}
use Rattle.inode_dirs.specs.Table.{Entry, node_of, tree_of, AreApart}
use Rattle.inode_dirs.specs.Files.{File, entry_of, table_of}
use Rattle.inode_dirs.proofs.TableLaws.{IsSameBut, node-none, tree-made}
use Rattle.inode_counts.proofs.EditCounts.{no_inodes, apart-none}
use Rattle.inode_store.specs.Files.{new_file}
use Rattle.inode_store.specs.Inodes.{file_at}
use Rattle.inode_store.specs.Held.{files_of}
use Rattle.inode_store.specs.Keeps.{Keeps}
use Rattle.inode_store.proofs.HeldLaws.{files_of-within, files_of-past}
use Rattle.std.proofs.lemmas.Bool.{cases_lt}
use Rattle.inode_tree.specs.Tables.{Tables}
use Rattle.inode_tree.specs.Changes.{AreBare, Takes}
use Rattle.inode_tree.specs.Sound.{IsTied, IsSound, IsPlanned, the_tree}
use Rattle.inode_tree.proofs.TiedLaws.{no_some}
use Rattle.inode_tree.proofs.RootLaws.{apart_root, others-root, tied-root}
use Rattle.inode_tree.proofs.WholeLaws.{new_is}

-- the lowest inode that is taken is the first
pub zero-taken : (t : Tables) (n i : ℕ) → AreBare t n → 0 < n → ((k : ℕ) → k < i → t.is_free k ≡ false) → i ≡ 0
zero-taken t n i bare some lower = elim (one_or_not i 0) as (λ _. i ≡ 0) [
  | inl at ↦ at
  | inr ne ↦ absurd (let bad : false ≡ true = sym (lower 0 (omega (arith, ne))) ∙ bare.free 0 some in cc)
]

pub planned-again : (limits : ServerLimits) (area area' : Area) (n n' size size' : ℕ) → IsPlanned limits area n size →
    area' ≡ area → n' ≡ n → size' ≡ size → IsPlanned limits area' n' size'
planned-again limits area area' n n' size size' planned ea en es =
    subst (λ a. IsPlanned limits a n' size') (sym ea) (subst (λ n. IsPlanned limits area n size') (sym en)
    (subst (λ s. IsPlanned limits area n s) (sym es) planned))

module _ (limits : ServerLimits) (area : Area) (n : ℕ) (c : Blocks) (size : ℕ) (m : List Bool) (t0 t : Tables)
    (planned : IsPlanned limits area n size) (keeps : Keeps area n c size m)
    (root : file_at area c 0 ≡ Some (new_file Dir)) (rest : (i : ℕ) → 1 ≤ i → i < n → file_at area c i ≡ None)
    (bare : AreBare t0 n) (takes : Takes t0 t 0 Dir 0)
    (apart : (i j : ℕ) → i < n → j < n → t.handle i ≡ t.handle j → i ≡ j) where
  abbrev files : ℕ → Option File
  files = files_of area n c

  abbrev e : Entry
  e = entry_of (new_file Dir)

  some : 0 < n
  some = let inodes = planned.inodes in omega (arith, inodes)

  at_root : files 0 ≡ Some (new_file Dir)
  at_root = files_of-within area n 0 c some ∙ root

  elsewhere : (i : ℕ) → i ≢ 0 → files i ≡ None
  elsewhere i ne = elim (cases_lt i n) [
    | inl l ↦ files_of-within area n i c l ∙ rest i (omega (arith, ne)) l
    | inr l ↦ files_of-past area n i c l
  ]

  apart_now : AreApart t.handle n (table_of files)
  apart_now = apart_root n files (new_file Dir) at_root refl refl elsewhere some t0 t bare takes apart

  others : IsSameBut no_inodes (table_of files) 0
  others = others-root n files (new_file Dir) at_root refl refl elsewhere some t0 t bare takes apart

  is : table_of files 0 ≡ Some e
  is = ap (option_map entry_of) at_root

  tied : IsTied n files t
  tied = tied-root n files (new_file Dir) at_root refl refl elsewhere some t0 t bare takes apart

  pub whole-root : IsSound limits area n c size m t
  whole-root = record {
    keeps = keeps;
    inodes = planned.inodes;
    blocks = planned.blocks;
    limited = planned.limited;
    tied = tied;
    within = (let used = takes.counts.used in let none = bare.used in omega (arith, used, none));
  }

  no_nodes : (tree_of t.handle n no_inodes).nodes ≡ empty
  no_nodes = same_answers (tree_of t.handle n no_inodes).nodes empty (λ q.
      node-none t.handle n no_inodes (apart-none t.handle n) q (λ i used. absurd (no_some Entry used))
      ∙ sym (get-empty (slice_cmp nat_cmp) q))

  -- the tree is an empty root
  pub fresh-root : the_tree n files t ≡ (record {
    root = t.handle 0;
    nodes = insert empty (t.handle 0) (new_node 0 (NamesOf empty));
  })
  fresh-root = tree-made t.handle n no_inodes (table_of files) (apart-none t.handle n) apart_now 0 others e is
      ∙ ap (λ nodes. let x : Tree = record { root = t.handle 0; nodes = insert nodes (t.handle 0) (node_of t.handle 0 e) } in
      x) no_nodes
      ∙ ap (λ x. let y : Tree = record { root = t.handle 0; nodes = insert empty (t.handle 0) x } in y)
      (new_is t.handle 0 Dir)
