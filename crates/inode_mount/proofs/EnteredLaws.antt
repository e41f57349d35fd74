-- The inodes of a medium are entered one after the other, where directories have no names yet.
use Rattle.std.proofs.Common.{inl, inr, ◌≡◌, ◌≢◌, ◌⊎◌, ℕ, ◌+◌, ◌<◌, ◌≤◌, arith, [], length, Option, None, Some, refl, sym, ap, ◌∙◌, subst}
use Rattle.std.specs.Option.{option_map}
use Rattle.std.proofs.lemmas.Bool.{cases_lt}
use Rattle.nfs2_types.specs.declared.fattr.Kind.{Kind}
use Rattle.nfs2_types.specs.declared.fattr.Kind.TheVariants.{Dir}
use Rattle.server_trait.proofs.TreeLaws.{one_or_not, some_same}
use Rattle.inode_dirs.specs.Files.{File}
use Rattle.server_trait.specs.declared.server.ServerLimits.{ServerLimits}
use Rattle.inode_store.specs.Layout.{AreSound, IsDir, used_at}
use Rattle.inode_tree.specs.Tables.{Tables}
use Rattle.inode_tree.specs.Changes.{AreBare, Takes}
use Rattle.inode_tree.proofs.RootLaws.{tied-root}
use Rattle.inode_tree.proofs.TakeLaws.{tied-taken}
use Rattle.inode_mount.specs.Reading.{cut_bytes, cut, AreEntered, IsEntering, AreNamed}
use Rattle.inode_mount.proofs.SoundLaws.{all_used}
use Rattle.inode_mount.proofs.UsedLaws.{used-cut, sums-less}

-- ONE VALUE OF A FUNCTION

module _ {X : Type 0} where
  -- a function with another value at one place
  abbrev pub with_value : (ℕ → X) → ℕ → X → ℕ → X
  with_value f i x j = elim (one_or_not j i) as (λ _. X) [ inl _ ↦ x | inr _ ↦ f j ]

  pub value-here : (f : ℕ → X) (i : ℕ) (x : X) → with_value f i x i ≡ x
  value-here f i x = by (one_or_not i i)
    where
      by : (d : (i ≡ i) ⊎ (i ≢ i)) → (elim d as (λ _. X) [ inl _ ↦ x | inr _ ↦ f i ]) ≡ x
      by (inl _) = refl
      by (inr ne) = absurd (ne refl)

  pub value-there : (f : ℕ → X) (i : ℕ) (x : X) (j : ℕ) → j ≢ i → with_value f i x j ≡ f j
  value-there f i x j ne = by (one_or_not j i)
    where
      by : (d : (j ≡ i) ⊎ (j ≢ i)) → (elim d as (λ _. X) [ inl _ ↦ x | inr _ ↦ f j ]) ≡ f j
      by (inl e) = absurd (ne e)
      by (inr _) = refl

-- AN INODE MORE

dir-is : (o : Option File) (f : File) → o ≡ Some f → IsDir o → f.kind ≡ Dir
dir-is None f is dir = absurd dir
dir-is (Some g) f is dir = ap (λ (f : File). f.kind) (sym (some_same refl is)) ∙ dir

module _ (n : ℕ) (files : ℕ → Option File) (root : IsDir (files 0)) (t t' : Tables) (f : File)
    (apart : (i j : ℕ) → i < n → j < n → t'.handle i ≡ t'.handle j → i ≡ j) where
  no_bytes : (cut 0 f).kind ≡ Dir → (cut 0 f).bytes ≡ []
  no_bytes is_dir = ap (λ (kind : Kind). cut_bytes kind 0 f.bytes) is_dir

  -- the first
  entered-root : 0 < n → files 0 ≡ Some f → Takes t t' 0 f.kind (length (cut 0 f).bytes) → AreBare t n →
      AreEntered n files 1 t'
  entered-root some is takes bare =
      let is_dir : f.kind ≡ Dir = dir-is (files 0) f is root in
      let so_far : ℕ → Option File = with_value (λ _. None) 0 (Some (cut 0 f)) in
      let here : so_far 0 ≡ Some (cut 0 f) = value-here (λ _. None) 0 (Some (cut 0 f)) in
      let others : (i : ℕ) → i ≢ 0 → so_far i ≡ None = λ i ne. value-there (λ _. None) 0 (Some (cut 0 f)) i ne in
      record {
        so_far = so_far;
        tied = tied-root n so_far (cut 0 f) here is_dir (no_bytes is_dir) others some t t' bare takes apart;
        below = λ i l.
            let first : i ≡ 0 = omega (arith, l) in
            ap so_far first ∙ here ∙ ap (option_map (cut 0)) (sym (ap files first ∙ is));
        past = λ i l. others i (λ e. absurd (omega (arith, l, e)));
      }

  -- one behind others
  entered-more : (k : ℕ) → k < n → files k ≡ Some f → Takes t t' k f.kind (length (cut 0 f).bytes) →
      AreEntered n files k t → AreEntered n files (k + 1) t'
  entered-more k l is takes s =
      let so_far : ℕ → Option File = with_value s.so_far k (Some (cut 0 f)) in
      let here : so_far k ≡ Some (cut 0 f) = value-here s.so_far k (Some (cut 0 f)) in
      let same : (i : ℕ) → i ≢ k → so_far i ≡ s.so_far i = λ i ne. value-there s.so_far k (Some (cut 0 f)) i ne in
      record {
        so_far = so_far;
        tied = tied-taken n s.so_far so_far t t' s.tied k l (s.past k (omega arith)) same (cut 0 f) here no_bytes takes
            apart;
        below = λ i l. elim (one_or_not i k) as (λ _. so_far i ≡ option_map (cut 0) (files i)) [
          | inl e ↦ ap so_far e ∙ here ∙ ap (option_map (cut 0)) (sym (ap files e ∙ is))
          | inr ne ↦ same i ne ∙ s.below i (omega (arith, l, ne))
        ];
        past = λ i l. same i (λ e. absurd (omega (arith, l, e))) ∙ s.past i (omega (arith, l));
      }

  pub entering-used : (k : ℕ) → k < n → files k ≡ Some f → Takes t t' k f.kind (length (cut 0 f).bytes) →
      IsEntering n files k t → AreEntered n files (k + 1) t'
  entering-used k l is takes (inl first) = subst (λ (k : ℕ). k < n → files k ≡ Some f →
      Takes t t' k f.kind (length (cut 0 f).bytes) → AreEntered n files (k + 1) t') (sym first.0)
      (λ l is takes. entered-root l is takes first.1) l is takes
  entering-used k l is takes (inr s) = entered-more k l is takes s

-- a free inode
pub entering-free : (n : ℕ) (files : ℕ → Option File) → IsDir (files 0) → (t : Tables) (k : ℕ) → files k ≡ None →
    IsEntering n files k t → AreEntered n files (k + 1) t
entering-free n files root t k free (inl first) =
    absurd (subst (λ (o : Option File). IsDir o) (ap files (sym first.0) ∙ free) root)
entering-free n files root t k free (inr s) = record {
  so_far = s.so_far;
  tied = s.tied;
  below = λ i l. elim (one_or_not i k) as (λ _. s.so_far i ≡ option_map (cut 0) (files i)) [
    | inl e ↦ s.past i (omega (arith, e)) ∙ ap (option_map (cut 0)) (sym (ap files e ∙ free))
    | inr ne ↦ s.below i (omega (arith, l, ne))
  ];
  past = λ i l. s.past i (omega (arith, l));
}

-- there is a row for each inode, and no more is counted than is allowed
pub entering-few : (limits : ServerLimits) (n : ℕ) (files : ℕ → Option File) → AreSound limits n files → (t : Tables)
    (k : ℕ) → IsEntering n files k t → (t.counts.inodes ≡ n) × (t.counts.used ≤ limits.bytes)
entering-few limits n files sound t k (inl first) =
    (first.1.inodes, (let none = first.1.used in omega (arith, none)))
entering-few limits n files sound t k (inr s) = (
  s.tied.inodes,
  (let all = all_used n s.so_far t s.tied in
      let less = sums-less n (λ i. used_at (s.so_far i)) (λ i. used_at (files i)) at in
      let most = sound.within in
      omega (arith, all, less, most)),
)
  where
    at : (i : ℕ) → used_at (s.so_far i) ≤ used_at (files i)
    at i = elim (cases_lt i k) as (λ _. used_at (s.so_far i) ≤ used_at (files i)) [
      | inl l ↦ subst (λ (o : Option File). used_at o ≤ used_at (files i)) (sym (s.below i l)) (used-cut (files i) 0)
      | inr g ↦ subst (λ (o : Option File). used_at o ≤ used_at (files i)) (sym (s.past i g)) (omega arith)
    ]

-- all inodes are entered
pub entering-all : (n : ℕ) (files : ℕ → Option File) → 0 < n → ((i : ℕ) → n ≤ i → files i ≡ None) → (t : Tables) (k : ℕ) →
    n ≤ k → IsEntering n files k t → AreNamed n files 0 0 t
entering-all n files some past t k l (inl first) = absurd (let none = first.0 in omega (arith, none, some, l))
entering-all n files some past t k l (inr s) = record {
  so_far = s.so_far;
  tied = s.tied;
  below = λ i l. absurd (omega (arith, l));
  here = all 0;
  above = λ i _. all i;
}
  where
    all : (i : ℕ) → s.so_far i ≡ option_map (cut 0) (files i)
    all i = elim (cases_lt i k) [
      | inl less ↦ s.below i less
      | inr more ↦ s.past i more ∙ ap (option_map (cut 0)) (sym (past i (omega (arith, more, l))))
    ]
