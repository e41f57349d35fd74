-- The names of a medium's directories are entered one after the other.
use Rattle.std.proofs.Common.{inl, inr, ◌≡◌, ◌≢◌, ℕ, suc, ◌+◌, ◌*◌, ◌%◌, ◌<◌, ◌≤◌, arith, List, [], ◌∷◌, ◌++◌, take, length, slice_get, Option, None, Some, IsSome, refl, sym, ap, ◌∙◌, subst}
use Rattle.std.specs.Option.{option_map}
use Rattle.std.proofs.lemmas.Bool.{cases_lt}
use Rattle.std.proofs.lemmas.List.{length-take-le}
use Rattle.std.proofs.lemmas.Option.{slice_get_within}
use Rattle.nfs2_types.specs.declared.fattr.Kind.{Kind}
use Rattle.nfs2_types.specs.declared.fattr.Kind.TheVariants.{File as AFile, Dir, Link}
use Rattle.server_trait.specs.declared.server.ServerLimits.{ServerLimits}
use Rattle.server_trait.proofs.TreeLaws.{one_or_not, some_none, some_same}
use Rattle.inode_dirs.specs.Files.{File, slots_of}
use Rattle.inode_dirs.specs.Slots.{Slots, IsIndexOf}
use Rattle.inode_dirs.proofs.SlotLaws.{index-added, next-new, get-take, get-take_past}
use Rattle.inode_store.specs.Layout.{AreSound, IsDir, names_at, used_at}
use Rattle.inode_tree.specs.Tables.{Tables, is_dir_kind}
use Rattle.inode_tree.specs.Changes.{Names, inode_of}
use Rattle.inode_tree.specs.Entries.{Enters}
use Rattle.inode_tree.specs.Sound.{IsTied, kind_at}
use Rattle.inode_tree.proofs.TiedLaws.{file-kind, index-dir}
use Rattle.inode_tree.proofs.BoundLaws.{few-links, few-subdirs}
use Rattle.inode_tree.proofs.MoreLaws.{tied-more}
use Rattle.inode_mount.specs.Reading.{cut, AreNamed}
use Rattle.inode_mount.proofs.CutLaws.{take-more, slots_of-cut, filled-cut, cut-all}
use Rattle.inode_mount.proofs.EnteredLaws.{with_value, value-here, value-there}
use Rattle.inode_mount.proofs.SoundLaws.{all_used}
use Rattle.inode_mount.proofs.UsedLaws.{used-cut, kind-cut, some-cut, sums-less}

-- the file of a kind
kind_file : (o : Option File) (kind : Kind) → option_map (λ (f : File). f.kind) o ≡ Some kind →
    (f : File) × (o ≡ Some f) × (f.kind ≡ kind)
kind_file None kind is = absurd (some_none is refl)
kind_file (Some f) kind is = (f, refl, some_same refl is)

-- the names of a directory are its slots
names_dir : (o : Option File) (f : File) → o ≡ Some f → f.kind ≡ Dir → names_at o ≡ slots_of f
names_dir o f is is_dir = ap names_at is ∙ ap (λ (kind : Kind). elim kind as (λ _. Slots)
    [ AFile ↦ [] | Dir ↦ slots_of f | Link ↦ [] ]) is_dir

is_dir_of : (o : Option File) (f : File) → o ≡ Some f → f.kind ≡ Dir → IsDir o
is_dir_of o f is is_dir = subst (λ (o : Option File). IsDir o) (sym is) is_dir

module _ (limits : ServerLimits) (n : ℕ) (files : ℕ → Option File) (sound : AreSound limits n files) (d k : ℕ)
    (t : Tables) (s : AreNamed n files d k t) where
  -- what holds of each file so far
  each : (P : ℕ → Option File → Type 0) → ((i : ℕ) → i < d → P i (files i)) → P d (option_map (cut k) (files d)) →
      ((i : ℕ) → d < i → P i (option_map (cut 0) (files i))) → (i : ℕ) → P i (s.so_far i)
  each P below here above i = elim (cases_lt i d) as (λ _. P i (s.so_far i)) [
    | inl l ↦ subst (λ (o : Option File). P i o) (sym (s.below i l)) (below i l)
    | inr g ↦ elim (one_or_not i d) as (λ _. P i (s.so_far i)) [
      | inl e ↦ subst (λ (i : ℕ). P i (s.so_far i)) (sym e) (subst (λ (o : Option File). P d o) (sym s.here) here)
      | inr ne ↦
          let l : d < i = omega (arith, g, ne) in
          subst (λ (o : Option File). P i o) (sym (s.above i l)) (above i l)
    ]
  ]

  pub used-within : t.counts.used ≤ limits.bytes
  used-within =
      let all = all_used n s.so_far t s.tied in
      let less = sums-less n (λ i. used_at (s.so_far i)) (λ i. used_at (files i))
      (each (λ i o. used_at o ≤ used_at (files i)) (λ i l. omega arith) (used-cut (files d) k)
      (λ i l. used-cut (files i) 0)) in
      let most = sound.within in
      omega (arith, all, less, most)

  kinds_so_far : (i : ℕ) → t.kind i ≡ kind_at files i
  kinds_so_far i = s.tied.kinds i ∙ each (λ i o. option_map (λ (f : File). f.kind) o ≡ kind_at files i) (λ i l. refl)
      (kind-cut (files d) k) (λ i l. kind-cut (files i) 0) i

  still : (i : ℕ) → IsSome (files i) → IsSome (s.so_far i)
  still = each (λ i o. IsSome (files i) → IsSome o) (λ i l h. h) (some-cut (files d) k) (λ i l. some-cut (files i) 0)

  pub used-few : (i : ℕ) → IsSome (files i) → i < n
  used-few i some = s.tied.few i (still i some)

  pub file-of_kind : (i : ℕ) (kind : Kind) → t.kind i ≡ Some kind → (f : File) × (files i ≡ Some f) × (f.kind ≡ kind)
  file-of_kind i kind is = kind_file (files i) kind (sym (kinds_so_far i) ∙ is)

  pub kind-of_file : (i : ℕ) (f : File) → files i ≡ Some f → t.kind i ≡ Some f.kind
  kind-of_file i f is = kinds_so_far i ∙ ap (option_map (λ (f : File). f.kind)) is

  -- THE NEXT SLOT OF A DIRECTORY

  module _ (f : File) (is : files d ≡ Some f) (is_dir : f.kind ≡ Dir) (name : List ℕ) (j : ℕ)
      (at : slice_get (slots_of f) k ≡ Some (name, j)) where
    filled : length f.bytes % 288 ≡ 0
    filled = sound.filled d f is is_dir

    in_slots : k < length (slots_of f)
    in_slots = slice_get_within (slots_of f) k (name, j) at

    was : s.so_far d ≡ Some (cut k f)
    was = s.here ∙ ap (option_map (cut k)) is

    in_names : (i : ℕ) (x : List ℕ × ℕ) → slice_get (slots_of f) i ≡ Some x → slice_get (names_at (files d)) i ≡ Some x
    in_names i x here = ap (λ (ss : Slots). slice_get ss i) (names_dir (files d) f is is_dir) ∙ here

    -- it leads to a used inode
    pub led : IsSome (files j)
    led = sound.led d k name j (in_names k (name, j) at)

    pub inode-few : j < n
    inode-few = used-few j led

    pub links-few : 512 * t.counts.links j ≤ limits.bytes
    links-few =
        let few = few-links n s.so_far t s.tied j (still j led) in
        let used = used-within in
        omega (arith, few, used)

    pub subdirs-few : 512 * t.counts.subdirs d ≤ limits.bytes
    subdirs-few =
        let few = few-subdirs n s.so_far t s.tied d (cut k f) was is_dir in
        let used = used-within in
        omega (arith, few, used)

    -- a slot that was entered is one of the medium, before this one
    entered : (i : ℕ) (g : File) → s.so_far i ≡ Some g → g.kind ≡ Dir → (slot : ℕ) (x : List ℕ × ℕ) →
        slice_get (slots_of g) slot ≡ Some x → (slice_get (names_at (files i)) slot ≡ Some x) × (i ≡ d → slot < k)
    entered = each (λ i o. (g : File) → o ≡ Some g → g.kind ≡ Dir → (slot : ℕ) (x : List ℕ × ℕ) →
        slice_get (slots_of g) slot ≡ Some x → (slice_get (names_at (files i)) slot ≡ Some x) × (i ≡ d → slot < k))
        (λ i l g is_g g_dir slot x here. (
          ap (λ (ss : Slots). slice_get ss slot) (names_dir (files i) g is_g g_dir) ∙ here,
          λ e. absurd (omega (arith, l, e)),
        ))
        (λ g is_g g_dir slot x here.
        let same : cut k f ≡ g = some_same (ap (option_map (cut k)) is) is_g in
        let part : slice_get (take k (slots_of f)) slot ≡ Some x =
        ap (λ (ss : Slots). slice_get ss slot) (sym (slots_of-cut f is_dir filled k (omega (arith, in_slots))))
        ∙ ap (λ (g : File). slice_get (slots_of g) slot) same ∙ here in
        let l = in_part slot x part in
        (in_names slot x (sym (get-take k (slots_of f) slot l) ∙ part), λ _. l))
        (λ i l g is_g g_dir slot x here. absurd (no_slot (files i) (sound.filled i) g is_g g_dir slot x here))
      where
        in_part : (slot : ℕ) (x : List ℕ × ℕ) → slice_get (take k (slots_of f)) slot ≡ Some x → slot < k
        in_part slot x part = elim (cases_lt slot k) as (λ _. slot < k) [
          | inl l ↦ l
          | inr past ↦ absurd (some_none part (get-take_past k (slots_of f) slot past))
        ]

        no_slot : (o : Option File) → ((f : File) → o ≡ Some f → f.kind ≡ Dir → length f.bytes % 288 ≡ 0) →
            (g : File) → option_map (cut 0) o ≡ Some g → g.kind ≡ Dir → (slot : ℕ) (x : List ℕ × ℕ) →
            slice_get (slots_of g) slot ≡ Some x → ⊥
        no_slot None full g is_g g_dir slot x here = some_none is_g refl
        no_slot (Some h) full g is_g g_dir slot x here =
            let same : cut 0 h ≡ g = some_same refl is_g in
            let h_dir : h.kind ≡ Dir = ap (λ (f : File). f.kind) same ∙ g_dir in
            some_none here (ap (λ (g : File). slice_get (slots_of g) slot) (sym same)
            ∙ ap (λ (ss : Slots). slice_get ss slot) (slots_of-cut h h_dir (full h refl h_dir) 0 (omega arith))
            ∙ get-take_past 0 (slots_of h) slot (omega arith))

    module _ (kind : Kind) (kind_j : t.kind j ≡ Some kind) (t' : Tables)
        (enters : Enters t t' d name (record { slot = k; inode = j }) (is_dir_kind kind)) where
      -- no name led to it before, if it is a directory
      unlinked : kind ≡ Dir → t.counts.links j ≡ 0
      unlinked to_dir = elim (one_or_not (t.counts.links j) 0) as (λ _. t.counts.links j ≡ 0) [
        | inl none ↦ none
        | inr some ↦
            let up = s.tied.parents.up j (kind_j ∙ ap Some to_dir) (omega (arith, some)) in
            let g = file-kind n s.so_far t s.tied (t.parent j) Dir up.0 in
            let stands = (index-dir n s.so_far t s.tied (t.parent j) g.0 g.1 g.2 up.1 up.2).0 up.3 in
            let before = entered (t.parent j) g.0 g.1 g.2 up.2.slot (up.1, up.2.inode) stands in
            let leads = before.0 ∙ ap (λ (i : ℕ). Some (up.1, i)) up.4 in
            let file_j = file-of_kind j Dir (kind_j ∙ ap Some to_dir) in
            let one = sound.one_name (t.parent j) d up.2.slot k up.1 name j leads (in_names k (name, j) at)
            (is_dir_of (files j) file_j.0 file_j.1 file_j.2) in
            let less = before.1 one.0 in
            let same = one.1 in
            absurd (omega (arith, less, same))
      ]

      indexed : IsIndexOf (t.place d) (take k (slots_of f))
      indexed = subst (λ (ss : Slots). IsIndexOf (t.place d) ss)
          (slots_of-cut f is_dir filled k (omega (arith, in_slots)))
          (index-dir n s.so_far t s.tied d (cut k f) was is_dir)

      new : t.place d name ≡ None
      new = next-new (t.place d) (slots_of f) k j name indexed at (λ a b x y q at_a at_b.
          sound.apart d a b q x y (in_names a (q, x) at_a) (in_names b (q, y) at_b))

      slots_more : slots_of (cut (k + 1) f) ≡ take k (slots_of f) ++ (name, j) ∷ []
      slots_more =
          let next : k + 1 ≡ suc k = omega arith in
          slots_of-cut f is_dir filled (k + 1) (omega (arith, in_slots))
          ∙ ap (λ (n : ℕ). take n (slots_of f)) next ∙ take-more (slots_of f) k (name, j) at

      indexed_now : IsIndexOf (t'.place d) (slots_of (cut (k + 1) f))
      indexed_now = subst (λ (ss : Slots). IsIndexOf (t'.place d) ss) (sym slots_more)
          (index-added (t.place d) (t'.place d) (take k (slots_of f)) indexed name j new (record { slot = k; inode = j })
          (sym (length-take-le k (slots_of f) (omega (arith, in_slots)))) refl enters.here enters.others)

      names : Names t t' d name j (is_dir_kind kind)
      names = record {
        handles = enters.handles;
        here = ap inode_of enters.here;
        others = λ q ne. ap inode_of (enters.others q ne);
        places = enters.places;
        counts = enters.counts;
        kinds = enters.kinds;
        parent_here = enters.parent_here;
        parents = enters.parents;
        free = enters.free;
      }

      now : ℕ → Option File
      now = with_value s.so_far d (Some (cut (k + 1) f))

      now_here : now d ≡ Some (cut (k + 1) f)
      unfolding now
      now_here = value-here s.so_far d (Some (cut (k + 1) f))

      now_there : (i : ℕ) → i ≢ d → now i ≡ s.so_far i
      unfolding now
      now_there i ne = value-there s.so_far d (Some (cut (k + 1) f)) i ne

      pub named-more : AreNamed n files d (k + 1) t'
      named-more = record {
        so_far = now;
        tied = tied-more n s.so_far now t t' s.tied d (cut k f) was is_dir now_there (cut (k + 1) f).bytes now_here
            (filled-cut f is_dir filled (k + 1) (omega (arith, in_slots))) indexed_now name j kind kind_j (ap inode_of new)
            names unlinked (sound.not_root d k name j (in_names k (name, j) at));
        below = λ i l. now_there i (λ e. absurd (omega (arith, l, e))) ∙ s.below i l;
        here = now_here ∙ ap (option_map (cut (k + 1))) (sym is);
        above = λ i l. now_there i (λ e. absurd (omega (arith, l, e))) ∙ s.above i l;
      }

  -- THE NEXT DIRECTORY

  pub named-next : ((f : File) → files d ≡ Some f → f.kind ≡ Dir → k ≡ length (slots_of f)) →
      AreNamed n files (d + 1) 0 t
  named-next all = record {
    so_far = s.so_far;
    tied = s.tied;
    below = λ i l. elim (one_or_not i d) as (λ _. s.so_far i ≡ files i) [
      | inl e ↦ ap s.so_far e ∙ s.here ∙ whole (files d) refl ∙ ap files (sym e)
      | inr ne ↦ s.below i (omega (arith, l, ne))
    ];
    here = s.above (d + 1) (omega arith);
    above = λ i l. s.above i (omega (arith, l));
  }
    where
      whole : (o : Option File) → files d ≡ o → option_map (cut k) (files d) ≡ files d
      whole None is = ap (option_map (cut k)) is ∙ sym is
      whole (Some f) is = ap (option_map (cut k)) is
          ∙ ap Some (cut-all f k (all f is) (sound.filled d f is)) ∙ sym is

-- all names are entered
pub named-all : (n : ℕ) (files : ℕ → Option File) (t : Tables) → ((i : ℕ) → n ≤ i → files i ≡ None) →
    AreNamed n files n 0 t → IsTied n files t
named-all n files t past s = subst (λ (f : ℕ → Option File). IsTied n f t) (λ x i. same i x) s.tied
  where
    same : (i : ℕ) → s.so_far i ≡ files i
    same i = elim (cases_lt i n) as (λ _. s.so_far i ≡ files i) [
      | inl l ↦ s.below i l
      | inr g ↦ elim (one_or_not i n) as (λ _. s.so_far i ≡ files i) [
        | inl e ↦
            let none = past n (omega arith) in
            ap s.so_far e ∙ s.here ∙ ap (option_map (cut 0)) none ∙ sym (ap files e ∙ none)
        | inr ne ↦
            let none = past i g in
            s.above i (omega (arith, g, ne)) ∙ ap (option_map (cut 0)) none ∙ sym none
      ]
    ]
