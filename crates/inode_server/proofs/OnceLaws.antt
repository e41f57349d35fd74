-- A tree on a medium is sound in one way at most.
use Rattle.std.proofs.Common.{◌≡◌, ℕ, arith, Bool, List, [], slice_get, Option, Some, ap, ◌∙◌, subst}
use Rattle.std.proofs.Props.{props}
use Rattle.nfs2_types.specs.declared.fattr.Kind.{Kind}
use Rattle.nfs2_types.specs.declared.fattr.Kind.TheVariants.{File as AFile, Dir, Link}
use Rattle.pointer_tree.specs.Tree.{Content as Blocks}
use Rattle.pointer_tree.specs.declared.node.Area.{Area}
use Rattle.server_trait.specs.declared.server.ServerLimits.{ServerLimits}
use Rattle.server_trait.proofs.TreeLaws.{is_some_and, some_same}
use Rattle.inode_dirs.specs.Files.{File, slots_of}
use Rattle.inode_dirs.specs.Slots.{Slots}
use Rattle.inode_dirs.specs.declared.index.Place.{Place}
use Rattle.inode_store.specs.Layout.{IsDir, names_at}
use Rattle.inode_tree.specs.Tables.{Tables, AreParents}
use Rattle.inode_tree.specs.Sound.{IsTied, IsSound}
use Rattle.inode_tree.proofs.TiedLaws.{file-kind, index-dir}
use Rattle.inode_mount.proofs.SoundLaws.{are_sound}

module _ (n : ℕ) (files : ℕ → Option File) (t : Tables) (tied : IsTied n files t) (j : ℕ) (dir : t.kind j ≡ Some Dir) where
  -- where a directory is named
  abbrev Named : Type 0
  Named = (t.kind (t.parent j) ≡ Some Dir) × (q : List ℕ) × (p : Place) × (t.place (t.parent j) q ≡ Some p) × (p.inode ≡ j)

  at_slot : (x : Named) → slice_get (names_at (files (t.parent j))) x.2.slot ≡ Some (x.1, j)
  at_slot x =
      let f = file-kind n files t tied (t.parent j) Dir x.0 in
      ap (λ o. slice_get (names_at o) x.2.slot) f.1
      ∙ ap (λ (k : Kind). slice_get (elim k as (λ _. Slots) [ AFile ↦ [] | Dir ↦ slots_of f.0 | Link ↦ [] ]) x.2.slot) f.2
      ∙ (index-dir n files t tied (t.parent j) f.0 f.1 f.2 x.1 x.2).0 x.3
      ∙ ap (λ i. Some (x.1, i)) x.4

  is_dir : IsDir (files j)
  is_dir = let f = file-kind n files t tied j Dir dir in is_some_and (λ (f : File). f.kind ≡ Dir) f.1 f.2

  same_name : (x y : Named) → x.1 ≡ y.1
  same_name x y =
      let limits : ServerLimits = record { nodes = 0; bytes = t.counts.used } in
      let sound = are_sound n files t tied limits (omega arith) in
      let one = sound.one_name (t.parent j) (t.parent j) x.2.slot y.2.slot x.1 y.1 j (at_slot x) (at_slot y) is_dir in
      ap (λ (s : List ℕ × ℕ). s.0) (some_same (at_slot x)
      (ap (λ k. slice_get (names_at (files (t.parent j))) k) one.1 ∙ at_slot y))

  same_place : (x y : Named) → x.2 ≡ y.2
  same_place x y = some_same x.3 (ap (t.place (t.parent j)) (same_name x y) ∙ y.3)

  abbrev named_as : (q : List ℕ) (p : Place) → (t.kind (t.parent j) ≡ Some Dir) → (t.place (t.parent j) q ≡ Some p) →
      (p.inode ≡ j) → Named
  named_as q p a b c = (a, q, p, b, c)

  pub named-prop : IsProp Named
  named-prop x y =
      let a_prop : IsProp (t.kind (t.parent j) ≡ Some Dir) = hlevel props in
      let b_prop : IsProp (t.place (t.parent j) x.1 ≡ Some x.2) = hlevel props in
      let c_prop : IsProp (x.2.inode ≡ j) = hlevel props in
      let here : (a : t.kind (t.parent j) ≡ Some Dir) (b : t.place (t.parent j) x.1 ≡ Some x.2) (c : x.2.inode ≡ j) →
      x ≡ named_as x.1 x.2 a b c = λ a b c. ap (λ a. named_as x.1 x.2 a x.3 x.4) (a_prop x.0 a)
      ∙ ap (λ b. named_as x.1 x.2 a b x.4) (b_prop x.3 b) ∙ ap (λ c. named_as x.1 x.2 a b c) (c_prop x.4 c) in
      let at_place = subst (λ (p : Place). (a : t.kind (t.parent j) ≡ Some Dir) (b : t.place (t.parent j) x.1 ≡ Some p)
      (c : p.inode ≡ j) → x ≡ named_as x.1 p a b c) (same_place x y) here in
      subst (λ (q : List ℕ). (a : t.kind (t.parent j) ≡ Some Dir) (b : t.place (t.parent j) q ≡ Some y.2)
      (c : y.2.inode ≡ j) → x ≡ named_as q y.2 a b c) (same_name x y) at_place y.0 y.3 y.4

pub parents-prop : (n : ℕ) (files : ℕ → Option File) (t : Tables) → IsTied n files t → IsProp (AreParents t)
parents-prop n files t tied = let one = named-prop n files t tied in hlevel (one, props)

pub tied-prop : (n : ℕ) (files : ℕ → Option File) (t : Tables) → IsProp (IsTied n files t)
tied-prop n files t x y =
    let one : IsProp (AreParents t) = parents-prop n files t x in
    let all : IsProp (IsTied n files t) = hlevel (one, props) in
    all x y

pub sound-prop : (limits : ServerLimits) (area : Area) (n : ℕ) (c : Blocks) (size : ℕ) (m : List Bool) (t : Tables) →
    IsProp (IsSound limits area n c size m t)
sound-prop limits area n c size m t = hlevel (tied-prop, props)
