-- Where a name can be added, taken out or moved: then no error applies but soft ones.
use Rattle.std.proofs.Common.{◌⊎◌, inl, inr, ◌≡◌, ◌≢◌, ℕ, List, Some, None, sym, ◌∙◌}
use Rattle.std.specs.FinMap.{get, empty}
use Rattle.server_trait.specs.Tree.{Tree, Node, Names, node_at, names_in, names_at, target}
use Rattle.server_trait.specs.Step.{OnlySoft, IsStale, IsNo, LacksName, HasNames, IsAtOrBelow}
use Rattle.server_trait.specs.Calls.{LinkErr, RemoveErr, RmdirErr, RenameErr, IsDir, Replaces}
use Rattle.server_trait.proofs.TreeLaws.{some_and, some_none, some_same}
use Rattle.server_trait.proofs.SoftLaws.{some_of, not_stale, not_other, dir_of_target, has_not_lacks, lookup_soft}
use Rattle.server_trait.specs.declared.server.SrvErr.TheVariants.{Stale, NoEnt, Exists, NotDir, WrongKind, NotEmpty, Subtree, Refused, Full}
use Rattle.server_trait.specs.declared.server.ServerLimits.{ServerLimits}

-- a node, and that it is no directory
not_dir : (t : Tree) (h : List ℕ) → IsNo names_in t h → IsDir t h → ⊥
not_dir t h other d = let m = some_of (names_at t h) d in not_other names_in t h m.0 m.1 other

not_none : (t : Tree) (h : List ℕ) → IsNo names_in t h → IsStale t h → ⊥
not_none t h other s = let n = some_and (node_at t h) (λ (n : Node). names_in n.content ≡ None) other in some_none n.1 s

pub link_soft : (limits : ServerLimits) (t : Tree) (h dir name : List ℕ) → IsNo names_in t h → LacksName t dir name →
    OnlySoft (LinkErr limits h dir name t)
link_soft limits t h dir name other l Stale (inl a) = not_none t h other a
link_soft limits t h dir name other l Stale (inr a) = let m = some_and (names_at t dir) (λ m. get m name ≡ None) l in
    not_stale names_in t dir m.0 m.1 a
link_soft limits t h dir name other l NotDir a = let m = some_and (names_at t dir) (λ m. get m name ≡ None) l in
    not_other names_in t dir m.0 m.1 a
link_soft limits t h dir name other l WrongKind a = not_dir t h other a
link_soft limits t h dir name other l Exists a = let x = some_of (target t dir name) a in
    has_not_lacks t dir name x.0 x.1 l
link_soft limits t h dir name other l Full a = tt
link_soft limits t h dir name other l e a = absurd a

pub remove_soft : (t : Tree) (dir name h : List ℕ) → target t dir name ≡ Some h → IsNo names_in t h →
    OnlySoft (RemoveErr dir name t)
remove_soft t dir name h is other WrongKind a = let x = some_and (target t dir name) (IsDir t) a in
    not_dir t x.0 (rw (some_same is x.1) at other) x.2
remove_soft t dir name h is other Stale a = lookup_soft t dir name h is Stale a
remove_soft t dir name h is other NotDir a = lookup_soft t dir name h is NotDir a
remove_soft t dir name h is other NoEnt a = lookup_soft t dir name h is NoEnt a
remove_soft t dir name h is other e a = absurd a

pub rmdir_soft : (t : Tree) (dir name h : List ℕ) → target t dir name ≡ Some h → names_at t h ≡ Some empty →
    OnlySoft (RmdirErr dir name t)
rmdir_soft t dir name h is other NotDir (inl a) = lookup_soft t dir name h is NotDir a
rmdir_soft t dir name h is other NotDir (inr a) = let x = some_and (target t dir name) (IsNo names_in t) a in
    not_other names_in t x.0 empty (rw (some_same is x.1) at other) x.2
rmdir_soft t dir name h is other NotEmpty a =
    let x = some_and (target t dir name) (HasNames t) a in
    let m = some_and (names_at t x.0) (λ m. m ≢ empty) x.2 in
    m.2 (some_same m.1 (rw (some_same is x.1) at other))
rmdir_soft t dir name h is other Stale a = lookup_soft t dir name h is Stale a
rmdir_soft t dir name h is other NoEnt a = lookup_soft t dir name h is NoEnt a
rmdir_soft t dir name h is other e a = absurd a

-- a rename that has to be done, or refused where the second name is there
pub record CanRename (t : Tree) (from name to to_name h : List ℕ) : Type 0 where
  pub is_moved : target t from name ≡ Some h
  pub into : Names
  pub is_into : names_at t to ≡ Some into
  pub not_below : IsDir t h → ¬ (IsAtOrBelow t h to)
  -- what is replaced is no directory, and is not replaced by one; or it is an empty directory, and is
  pub fits : (r : List ℕ) → target t to to_name ≡ Some r → r ≢ h →
      (IsNo names_in t h × IsNo names_in t r) ⊎ (IsDir t h × (names_at t r ≡ Some empty))

module _ {t : Tree} {from name to to_name h : List ℕ} (c : CanRename t from name to to_name h) where
  of_replaced : {P : List ℕ → List ℕ → Type 0} → Replaces P t from name to to_name →
      (r : List ℕ) × P h r × ((IsNo names_in t h × IsNo names_in t r) ⊎ (IsDir t h × (names_at t r ≡ Some empty)))
  of_replaced {P} x =
      let same = some_same x.is_moved c.is_moved in
      (x.replaced, rw same at x.holds, c.fits x.replaced x.is_replaced (λ e. x.apart (e ∙ sym same)))

  either : {A B : Type 0} → A ⊎ B → (A → ⊥) → (B → ⊥) → ⊥
  either (inl a) f g = f a
  either (inr b) f g = g b

  pub rename_soft : OnlySoft (RenameErr from name to to_name t)
  rename_soft Stale (inl a) = let m = dir_of_target t from name h c.is_moved in not_stale names_in t from m.0 m.1 a
  rename_soft Stale (inr a) = not_stale names_in t to c.into c.is_into a
  rename_soft NotDir (inl (inl a)) = let m = dir_of_target t from name h c.is_moved in
      not_other names_in t from m.0 m.1 a
  rename_soft NotDir (inl (inr a)) = not_other names_in t to c.into c.is_into a
  rename_soft NotDir (inr a) = let x = of_replaced a in
      either x.2 (λ k. not_dir t h k.0 x.1.0) (λ k. not_other names_in t x.0 empty k.1 x.1.1)
  rename_soft NoEnt a = has_not_lacks t from name h c.is_moved a
  rename_soft WrongKind a = let x = of_replaced a in either x.2 (λ k. not_dir t x.0 k.1 x.1.1)
      (λ k. not_dir t h x.1.0 k.0)
  rename_soft NotEmpty a =
      let x = of_replaced a in
      let m = some_and (names_at t x.0) (λ m. m ≢ empty) x.1 in
      either x.2 (λ k. not_other names_in t x.0 m.0 m.1 k.1) (λ k. m.2 (some_same m.1 k.1))
  rename_soft Subtree a =
      let x = some_and (target t from name) (λ h. IsDir t h × IsAtOrBelow t h to) a in
      let same = some_same x.1 c.is_moved in
      let y = rw same at x.2 in
      c.not_below y.0 y.1
  rename_soft Refused a = tt
  rename_soft e a = absurd a
