-- The slots of one directory change.
use Rattle.std.proofs.Common.{inl, inr, ◌≡◌, ◌≢◌, ◌⊎◌, ℕ, ◌/◌, ◌%◌, ◌<◌, List, length, Option, Some, None, IsSome, refl, sym, ap, ◌∙◌, subst}
use Rattle.std.specs.Option.{option_map}
use Rattle.nfs2_types.specs.declared.fattr.Kind.TheVariants.{Dir}
use Rattle.server_trait.proofs.TreeLaws.{bytes_or_not, one_or_not, some_none, some_same}
use Rattle.inode_dirs.specs.Slots.{Slots, IsIndexOf}
use Rattle.inode_dirs.specs.SlotBytes.{slots_in}
use Rattle.inode_dirs.specs.Table.{DirSlots, Entry, AreApart}
use Rattle.inode_dirs.specs.Files.{File, body_of, entry_of, table_of}
use Rattle.inode_dirs.specs.declared.index.Place.{Place}
use Rattle.inode_dirs.proofs.TableLaws.{IsSameBut}
use Rattle.inode_dirs.proofs.FileLaws.{others-same}
use Rattle.inode_tree.specs.Tables.{Tables}
use Rattle.inode_tree.specs.Changes.{inode_of}
use Rattle.inode_tree.specs.Sound.{IsTied, kind_at}
use Rattle.inode_tree.proofs.TiedLaws.{some_is, some_entry, are_apart, kind-file, led-place}

-- the place of an inode
pub place_of : (o : Option Place) (j : ℕ) → inode_of o ≡ Some j → (p : Place) × (o ≡ Some p) × (p.inode ≡ j)
place_of None j bad = absurd (some_none bad refl)
place_of (Some p) j is = (p, refl, some_same refl is)

pub no_place_of : (o : Option Place) → inode_of o ≡ None → o ≡ None
no_place_of None is = refl
no_place_of (Some p) bad = absurd (some_none refl bad)

-- THE SLOTS OF ONE DIRECTORY CHANGE

module _ (n : ℕ) (files files' : ℕ → Option File) (t : Tables) (tied : IsTied n files t) (i : ℕ) (f : File)
    (was : files i ≡ Some f) (is_dir : f.kind ≡ Dir) (same : (j : ℕ) → j ≢ i → files' j ≡ files j) (bytes : List ℕ)
    (here : files' i ≡ Some (record f { bytes = bytes })) where
  pub others : IsSameBut (table_of files) (table_of files') i
  others = others-same files files' i same

  abbrev pub e : Entry
  e = entry_of f

  abbrev pub ss : Slots
  ss = slots_in (length f.bytes / 288) f.bytes

  abbrev pub ss' : Slots
  ss' = slots_in (length bytes / 288) bytes

  pub is : table_of files i ≡ Some e
  is = ap (option_map entry_of) was

  pub has : e.body ≡ DirSlots ss
  has = ap (λ k. body_of k f.bytes) is_dir

  pub is_now : table_of files' i ≡ Some (record e { body = DirSlots ss' })
  is_now = ap (option_map entry_of) here
      ∙ ap (λ k. let x : Entry = record e { body = body_of k bytes } in Some x) is_dir

  was_used : (j : ℕ) → IsSome (files' j) → IsSome (files j)
  was_used j some = elim (one_or_not j i) as (λ _. IsSome (files j)) [
    | inl at ↦ some_is (ap files at ∙ was)
    | inr ne ↦ subst (λ o. IsSome o) (same j ne) some
  ]

  still : (j : ℕ) → IsSome (table_of files j) → IsSome (table_of files' j)
  still j some = elim (one_or_not j i) as (λ _. IsSome (table_of files' j)) [
    | inl at ↦ some_is (ap (table_of files') at ∙ is_now)
    | inr ne ↦ subst (λ o. IsSome o) (sym (others j ne)) some
  ]

  pub few_now : (j : ℕ) → IsSome (files' j) → j < n
  few_now j some = tied.few j (was_used j some)

  pub apart_now : AreApart t.handle n (table_of files')
  apart_now = are_apart n files' t.handle tied.apart few_now

  pub kind_i : t.kind i ≡ Some Dir
  kind_i = kind-file n files t tied i f was ∙ ap Some is_dir

  pub kinds_now : (j : ℕ) → t.kind j ≡ kind_at files' j
  kinds_now j = elim (one_or_not j i) as (λ _. t.kind j ≡ kind_at files' j) [
    | inl at ↦ ap t.kind at ∙ kind-file n files t tied i f was
        ∙ sym (ap (option_map (λ (f : File). f.kind)) (ap files' at ∙ here))
    | inr ne ↦ tied.kinds j ∙ sym (ap (option_map (λ (f : File). f.kind)) (same j ne))
  ]

  pub filled_now : length bytes % 288 ≡ 0 → (j : ℕ) (x : File) → files' j ≡ Some x → x.kind ≡ Dir →
      length x.bytes % 288 ≡ 0
  filled_now filled j x at to_dir = elim (one_or_not j i) as (λ _. length x.bytes % 288 ≡ 0) [
    | inl e ↦ subst (λ (x : File). length x.bytes % 288 ≡ 0) (some_same here (ap files' (sym e) ∙ at)) filled
    | inr ne ↦ tied.filled j x (sym (same j ne) ∙ at) to_dir
  ]

  -- the slots of a directory are indexed, if those of this one are
  module _ (place' : ℕ → List ℕ → Option Place) (places : (k : ℕ) → k ≢ i → place' k ≡ t.place k)
      (index' : IsIndexOf (place' i) ss') where
    pub index_now : (j : ℕ) (x : Entry) (xs : Slots) → table_of files' j ≡ Some x → x.body ≡ DirSlots xs →
        IsIndexOf (place' j) xs
    index_now j x xs at body = elim (one_or_not j i) as (λ _. IsIndexOf (place' j) xs) [
      | inl e ↦
          let slots : ss' ≡ xs = same_slots (ap (λ (e : Entry). e.body)
          (some_same is_now (ap (table_of files') (sym e) ∙ at)) ∙ body) in
          subst (λ j. IsIndexOf (place' j) xs) (sym e) (subst (λ xs. IsIndexOf (place' i) xs) slots index')
      | inr ne ↦ subst (λ f. IsIndexOf f xs) (sym (places j ne)) (tied.index j x xs (sym (others j ne) ∙ at) body)
    ]
      where
        same_slots : {xs : Slots} → DirSlots ss' ≡ DirSlots xs → ss' ≡ xs
        same_slots q = cc

    -- what a name leads to is used, if it was so for other names, and is so for this one
    pub led_now : (name : List ℕ) → ((q : List ℕ) → q ≢ name → inode_of (place' i q) ≡ inode_of (t.place i q)) →
        ((p : Place) → place' i name ≡ Some p → IsSome (table_of files p.inode)) →
        (j : ℕ) (x : Entry) (xs : Slots) (q : List ℕ) (p : Place) → table_of files' j ≡ Some x →
        x.body ≡ DirSlots xs → place' j q ≡ Some p → IsSome (table_of files' p.inode)
    led_now name others_led this j x xs q p at body leads = still p.inode (elim (one_or_not j i) as
        (λ _. IsSome (table_of files p.inode)) [
          | inl e ↦ at_i (ap (λ j. place' j q) (sym e) ∙ leads) (bytes_or_not q name)
          | inr ne ↦ tied.led j x xs q p (sym (others j ne) ∙ at) body (ap (λ f. f q) (sym (places j ne)) ∙ leads)
        ])
      where
        at_i : place' i q ≡ Some p → (q ≡ name) ⊎ (q ≢ name) → IsSome (table_of files p.inode)
        at_i leads (inl e) = this p (ap (place' i) (sym e) ∙ leads)
        at_i leads (inr ne) =
            let old = place_of (t.place i q) p.inode (sym (others_led q ne) ∙ ap inode_of leads) in
            subst (λ k. IsSome (table_of files k)) old.2 (some_entry files old.0.inode
            (led-place n files t tied i q old.0 kind_i old.1))
