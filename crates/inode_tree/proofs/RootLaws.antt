-- A root without names, and no other inode.
use Rattle.std.proofs.Common.{inl, inr, ◌≡◌, ◌≢◌, ◌↔◌, ℕ, ◌%◌, ◌<◌, arith, true, false, List, [], length, Option, Some, None, IsSome, refl, sym, ap, ◌∙◌, subst}
use Rattle.std.specs.Option.{option_map}
use Rattle.nfs2_types.specs.declared.fattr.Kind.TheVariants.{Dir}
use Rattle.server_trait.proofs.TreeLaws.{one_or_not, some_none, some_same}
use Rattle.inode_dirs.specs.Slots.{Slots, IsIndexOf}
use Rattle.inode_dirs.specs.Table.{DirSlots, Entry, AreApart}
use Rattle.inode_dirs.specs.Files.{File, entry_of, table_of}
use Rattle.inode_dirs.specs.declared.index.Place.{Place}
use Rattle.inode_dirs.proofs.TableLaws.{IsSameBut}
use Rattle.inode_counts.specs.Changes.{CountsNew}
use Rattle.inode_counts.specs.Counted.{IsCounted, AreLed}
use Rattle.inode_counts.proofs.EditCounts.{no_inodes, apart-none, counted-none}
use Rattle.inode_counts.proofs.NodeCounts.{counted-made}
use Rattle.inode_tree.specs.Tables.{Tables}
use Rattle.inode_tree.specs.Changes.{AreBare, Takes}
use Rattle.inode_tree.specs.Sound.{IsTied, kind_at}
use Rattle.inode_tree.proofs.TiedLaws.{some_is, no_some, entry_some, are_apart}
use Rattle.inode_tree.proofs.TakeLaws.{bare_slots, bare_to, bare_dirs, bare_used}

module _ (n : ℕ) (files : ℕ → Option File) (f : File) (at_root : files 0 ≡ Some f) (is_dir : f.kind ≡ Dir)
    (empty : f.bytes ≡ []) (elsewhere : (i : ℕ) → i ≢ 0 → files i ≡ None) (some : 0 < n) (t0 t : Tables)
    (bare : AreBare t0 n) (takes : Takes t0 t 0 f.kind (length f.bytes))
    (apart : (i j : ℕ) → i < n → j < n → t.handle i ≡ t.handle j → i ≡ j) where
  abbrev e : Entry
  e = entry_of f

  only_root : (i : ℕ) → IsSome (files i) → i ≡ 0
  only_root i used = elim (one_or_not i 0) as (λ _. i ≡ 0) [
    | inl at ↦ at
    | inr ne ↦ absurd (no_some File (subst (λ o. IsSome o) (elsewhere i ne) used))
  ]

  few : (i : ℕ) → IsSome (files i) → i < n
  few i used = let at = only_root i used in let l = some in omega (arith, at, l)

  pub apart_root : AreApart t.handle n (table_of files)
  apart_root = are_apart n files t.handle apart few

  pub others-root : IsSameBut no_inodes (table_of files) 0
  others-root i ne = ap (option_map entry_of) (elsewhere i ne)

  is : table_of files 0 ≡ Some e
  is = ap (option_map entry_of) at_root

  no_slots : (ss : Slots) → e.body ≡ DirSlots ss → ss ≡ []
  no_slots ss has = bare_slots f.kind f.bytes (λ _. empty) ss has

  led_none : AreLed t.handle no_inodes
  led_none i x ss name h at has to = absurd (some_none at refl)

  counted : IsCounted t.handle n (table_of files) t.counts
  counted = counted-made t.handle n no_inodes (table_of files) (apart-none t.handle n) apart_root led_none 0 others-root e
      refl is (bare_to t.handle e.body no_slots) (λ tree ss has. bare_dirs t.handle tree ss (no_slots ss has)) t0.counts
      t.counts (counted-none t.handle n t0.counts bare.used)
      (subst (λ b. CountsNew t0.counts t.counts 0 b) (sym (bare_used t.handle f.kind f.bytes (λ _. empty))) takes.counts)

  kind_other : (i : ℕ) → i ≢ 0 → t.kind i ≡ None
  kind_other i ne = takes.kinds i ne ∙ bare.kinds i

  dir_root : (i : ℕ) → t.kind i ≡ Some Dir → i ≡ 0
  dir_root i to_dir = elim (one_or_not i 0) as (λ _. i ≡ 0) [
    | inl at ↦ at
    | inr ne ↦ absurd (some_none to_dir (kind_other i ne))
  ]

  no_place : (i : ℕ) (q : List ℕ) (p : Place) → i ≡ 0 → t.place i q ≡ Some p → ⊥
  no_place i q p at leads = some_none leads (ap (λ i. t.place i q) at ∙ takes.bare q)

  no_links : (i : ℕ) → i ≡ 0 → t.counts.links i ≡ 0
  no_links i at = ap t.counts.links at ∙ takes.counts.links_here

  pub tied-root : IsTied n files t
  tied-root = record {
    inodes = takes.counts.inodes ∙ bare.inodes;
    apart = apart;
    few = few;
    index = λ i x ss at has.
        let here = only_root i (entry_some files i (some_is at)) in
        let none : ss ≡ [] = no_slots ss (ap (λ (e : Entry). e.body)
        (some_same is (ap (table_of files) (sym here) ∙ at)) ∙ has) in
        subst (λ ss. IsIndexOf (t.place i) ss) (sym none) (λ q p. (
          λ a. absurd (no_place i q p here a),
          λ a. absurd (some_none a refl),
        ));
    led = λ i x ss q p at has leads. absurd (no_place i q p (only_root i (entry_some files i (some_is at))) leads);
    counted = counted;
    kinds = λ i. elim (one_or_not i 0) as (λ _. t.kind i ≡ kind_at files i) [
      | inl at ↦ ap t.kind at ∙ takes.kind_here ∙ sym (ap (option_map (λ (f : File). f.kind)) (ap files at ∙ at_root))
      | inr ne ↦ kind_other i ne ∙ sym (ap (option_map (λ (f : File). f.kind)) (elsewhere i ne))
    ];
    free = λ i l. elim (one_or_not i 0) as (λ _. (t.is_free i ≡ true) ↔ (t.kind i ≡ None)) [
      | inl at ↦ (
        λ a. absurd (let bad : true ≡ false = sym a ∙ ap t.is_free at ∙ takes.free_here in cc),
        λ a. absurd (some_none (ap t.kind at ∙ takes.kind_here) a),
      )
      | inr ne ↦ (λ _. kind_other i ne, λ _. takes.free i ne ∙ bare.free i l)
    ];
    filled = λ i x at to_dir.
        let here = only_root i (some_is at) in
        let none : x.bytes ≡ [] = ap (λ (f : File). f.bytes) (some_same at (ap files here ∙ at_root)) ∙ empty in
        ap (λ (b : List ℕ). length b % 288) none;
    root = ap (option_map (λ (f : File). f.kind)) at_root ∙ ap Some is_dir;
    top = no_links 0 refl;
    parents = record {
      up = λ i to_dir linked. absurd (let none = no_links i (dir_root i to_dir) in omega (arith, none, linked));
      only = λ i q p in_dir leads to_dir. absurd (no_place i q p (dir_root i in_dir) leads);
      once = λ i to_dir. let none = no_links i (dir_root i to_dir) in omega (arith, none);
    };
  }
