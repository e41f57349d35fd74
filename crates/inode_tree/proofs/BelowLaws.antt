-- A directory lies below another exactly where the directories that name it lead up to that one.
use Rattle.std.proofs.Common.{inl, inr, ◌≡◌, ◌≢◌, ◌⊎◌, ℕ, zero, suc, ◌<◌, ◌≤◌, arith, List, Option, Some, None, IsSome, refl, sym, ap, ◌∙◌, subst}
use Rattle.std.specs.Option.{option_map}
use Rattle.nfs2_types.specs.declared.fattr.Kind.{Kind}
use Rattle.nfs2_types.specs.declared.fattr.Kind.TheVariants.{File as AFile, Dir, Link}
use Rattle.server_trait.specs.Tree.{Node, Names, names_in, target}
use Rattle.server_trait.specs.Step.{LeadsIn, IsAtOrBelow}
use Rattle.server_trait.proofs.TreeLaws.{some_none, some_same, target_found}
use Rattle.inode_dirs.specs.Table.{content_of}
use Rattle.inode_dirs.specs.Files.{File, body_of}
use Rattle.inode_dirs.specs.declared.index.Place.{Place}
use Rattle.inode_tree.specs.Tables.{Tables, climb, IsUnder}
use Rattle.inode_tree.specs.Sound.{IsTied, the_tree}
use Rattle.inode_tree.proofs.SizeLaws.{last_or}
use Rattle.inode_tree.proofs.TiedLaws.{some_is, some_of, kind-file, node-file, file-kind, target-place, linked-place, led-place}

module _ (n : ℕ) (files : ℕ → Option File) (t : Tables) (tied : IsTied n files t) where
  -- each directory on the way up is one
  pub climb-dir : (k i : ℕ) → t.kind i ≡ Some Dir → ((j : ℕ) → j < k → 1 ≤ t.counts.links (climb t j i)) →
      t.kind (climb t k i) ≡ Some Dir
  climb-dir zero i is_dir linked = is_dir
  climb-dir (suc k) i is_dir linked =
      let below = climb-dir k i is_dir (λ j l. linked j (omega (arith, l))) in
      (tied.parents.up (climb t k i) below (linked k (omega arith))).0

  leads_down : (k i : ℕ) → t.kind i ≡ Some Dir → ((j : ℕ) → j < k → 1 ≤ t.counts.links (climb t j i)) →
      LeadsIn (the_tree n files t) k (t.handle (climb t k i)) (t.handle i)
  leads_down zero i is_dir linked = refl
  leads_down (suc k) i is_dir linked =
      let below = climb-dir k i is_dir (λ j l. linked j (omega (arith, l))) in
      let up = tied.parents.up (climb t k i) below (linked k (omega arith)) in
      let f = file-kind n files t tied (t.parent (climb t k i)) Dir up.0 in (
        up.1,
        t.handle (climb t k i),
        target-place n files t tied (t.parent (climb t k i)) f.0 f.1 f.2 up.1
            ∙ ap (option_map (λ (p : Place). t.handle p.inode)) up.3 ∙ ap (λ j. Some (t.handle j)) up.4,
        leads_down k i is_dir (λ j l. linked j (omega (arith, l))),
      )

  pub under-below : (top i : ℕ) → t.kind i ≡ Some Dir → IsUnder t top i →
      IsAtOrBelow (the_tree n files t) (t.handle top) (t.handle i)
  under-below top i is_dir under = (
    under.0,
    subst (λ j. LeadsIn (the_tree n files t) under.0 (t.handle j) (t.handle i))
        under.1 (leads_down under.0 i is_dir under.2),
  )

  -- what has names is a directory
  dir_of_target : (j : ℕ) (q h : List ℕ) → IsSome (files j) → target (the_tree n files t) (t.handle j) q ≡ Some h →
      t.kind j ≡ Some Dir
  dir_of_target j q h used leads =
      let f = some_of (files j) used in
      let found = target_found (the_tree n files t) (t.handle j) q h leads in
      let same = some_same found.is_node (node-file n files t tied j f.0 f.1) in
      let names : names_in (content_of t.handle (body_of f.0.kind f.0.bytes)) ≡ Some found.names =
      ap (λ (x : Node). names_in x.content) (sym same) ∙ found.is_dir in
      kind-file n files t tied j f.0 f.1 ∙ ap Some (by f.0.kind f.0.bytes found.names names)
    where
      by : (k : Kind) (b : List ℕ) (m : Names) → names_in (content_of t.handle (body_of k b)) ≡ Some m → k ≡ Dir
      by AFile b m bad = absurd (some_none bad refl)
      by Link b m bad = absurd (some_none bad refl)
      by Dir b m is = refl

  -- what something leads to in some steps is a directory, if the last is
  first_dir : (k j i : ℕ) → IsSome (files j) → t.kind i ≡ Some Dir →
      LeadsIn (the_tree n files t) k (t.handle j) (t.handle i) → t.kind j ≡ Some Dir
  first_dir zero j i used is_dir same =
      let g = file-kind n files t tied i Dir is_dir in
      ap t.kind (tied.apart j i (tied.few j used) (tied.few i (some_is g.1)) same) ∙ is_dir
  first_dir (suc k) j i used is_dir leads = dir_of_target j leads.0 leads.1 used leads.2

  climb_up : (k top i : ℕ) → t.kind top ≡ Some Dir → t.kind i ≡ Some Dir →
      LeadsIn (the_tree n files t) k (t.handle top) (t.handle i) → IsUnder t top i
  climb_up zero top i top_dir is_dir same =
      let f = file-kind n files t tied top Dir top_dir in
      let g = file-kind n files t tied i Dir is_dir in (
        0,
        sym (tied.apart top i (tied.few top (some_is f.1)) (tied.few i (some_is g.1)) same),
        λ j l. absurd (omega (arith, l)),
      )
  climb_up (suc k) top i top_dir is_dir leads = by (λ p p_dir rest. climb_up k p i p_dir is_dir rest)
      (t.place top leads.0) refl
    where
      f : (f : File) × (files top ≡ Some f) × (f.kind ≡ Dir)
      f = file-kind n files t tied top Dir top_dir

      to : target (the_tree n files t) (t.handle top) leads.0 ≡ option_map (λ (p : Place). t.handle p.inode)
          (t.place top leads.0)
      to = target-place n files t tied top f.0 f.1 f.2 leads.0

      last : (j m : ℕ) → j < suc m → (j ≡ m) ⊎ (j < m)
      last j m l = last_or m j l

      by : ((p : ℕ) → t.kind p ≡ Some Dir → LeadsIn (the_tree n files t) k (t.handle p) (t.handle i) → IsUnder t p i) →
          (o : Option Place) → t.place top leads.0 ≡ o → IsUnder t top i
      by below None none = absurd (some_none leads.2 (to ∙ ap (option_map (λ (p : Place). t.handle p.inode)) none))
      by below (Some p) some =
          let is_p : t.handle p.inode ≡ leads.1 = some_same (to ∙ ap (option_map (λ (p : Place). t.handle p.inode)) some)
          leads.2 in
          let rest = subst (λ h. LeadsIn (the_tree n files t) k h (t.handle i)) (sym is_p) leads.3 in
          let p_dir = first_dir k p.inode i (led-place n files t tied top leads.0 p top_dir some) is_dir rest in
          let under = below p.inode p_dir rest in
          let linked = linked-place n files t tied top leads.0 p top_dir some in (
            suc under.0,
            ap t.parent under.1 ∙ tied.parents.only top leads.0 p top_dir some p_dir,
            λ j l. elim (last j under.0 l) as (λ _. 1 ≤ t.counts.links (climb t j i)) [
              | inl at ↦ subst (λ x. 1 ≤ t.counts.links x) (sym (ap (λ j. climb t j i) at ∙ under.1)) linked
              | inr less ↦ under.2 j less
            ],
          )

  pub below-under : (top i : ℕ) → t.kind top ≡ Some Dir → t.kind i ≡ Some Dir →
      IsAtOrBelow (the_tree n files t) (t.handle top) (t.handle i) → IsUnder t top i
  below-under top i top_dir is_dir below = climb_up below.0 top i top_dir is_dir below.1
