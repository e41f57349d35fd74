-- What a look-up and the counts say to a call on names.
use Rattle.std.proofs.Common.{◌≡◌, ◌≢◌, ◌∙◌, ℕ, suc, zero, List, Option, Some, None, IsSome, refl, sym, ap, subst, arith}
use Rattle.std.specs.Prelude.{option_map, IsSomeAnd, if◌then◌else◌, bytes_eq}
use Rattle.std.specs.FinMap.{get, empty, len, get-empty, len-empty}
use Rattle.std.specs.Ordering.{nat_cmp}
use Rattle.std.specs.Cmp.Lexicographic.{slice_cmp}
use Rattle.server_trait.specs.Tree.{Tree, Node, Names, node_at, names_at, names_in, target, named, unnamed, let_go}
use Rattle.server_trait.specs.Step.{HasName, HasNames, IsAtOrBelow, IsNo, LacksName, LeadsIn}
use Rattle.server_trait.specs.Calls.{IsDir, renamed}
use Rattle.server_trait.specs.declared.server.ServerLimits.{ServerLimits}
use Rattle.server_trait.proofs.SoftLaws.{dir_of_target, some_of}
use Rattle.server_trait.proofs.TreeLaws.{and_then, is_some_and, names_at-node, same_answers, some_and, some_same}
use Rattle.tree_laws.proofs.CountChanges.{len-remove_old}
use Rattle.log_tree.specs.Held.{Records, handle_of, tree_of}
use Rattle.log_held.specs.Sound.{IsSound}
use Rattle.log_changes.specs.Made.{IsBareDir}
use Rattle.log_changes.proofs.DirLaws.{target_of}

module _ (t : Tree) (D H name : List ℕ) (child : Option (List ℕ)) (same : D ≡ H)
    (found : option_map handle_of child ≡ target t H name) where
  at : target t D name ≡ option_map handle_of child
  at = ap (λ d. target t d name) same ∙ sym found

  pub leads_to : (x : List ℕ) → child ≡ Some x → target t D name ≡ Some (handle_of x)
  leads_to x is = at ∙ ap (option_map handle_of) is

  pub has_name : (x : List ℕ) → child ≡ Some x → HasName t D name
  has_name x is = subst (λ o. IsSome o) (sym (leads_to x is)) refl

  pub lacks_name : child ≡ None → IsSome (names_at t D) → LacksName t D name
  lacks_name none dir =
      let m = some_of (names_at t D) dir in
      let gone : target t D name ≡ None = at ∙ ap (option_map handle_of) none in
      is_some_and (λ (k : Names). get k name ≡ None) m.1
      (sym (and_then (λ (k : Names). get k name) (names_at t D) m.0 m.1) ∙ gone)

-- a node that is there and is no directory
pub no_names : (t : Tree) (h : List ℕ) → IsSome (node_at t h) → ¬ (IsDir t h) → IsNo names_in t h
no_names t h there other =
    let n = some_of (node_at t h) there in
    is_some_and (λ (k : Node). names_in k.content ≡ None) n.1 (none (names_in n.0.content)
    (λ some. other (subst (λ o. IsSome o) (sym (names_at-node t h n.0 n.1)) some)))
  where
    none : (o : Option Names) → (IsSome o → ⊥) → o ≡ None
    none None h = refl
    none (Some m) h = absurd (h refl)

-- what lies above a directory is one
pub above_is_dir : (t : Tree) (h q : List ℕ) → IsAtOrBelow t h q → IsDir t q → IsDir t h
above_is_dir t h q below dir = path below.0 below.1
  where
    path : (k : ℕ) → LeadsIn t k h q → IsDir t h
    path zero e = subst (IsDir t) (sym e) dir
    path (suc k) p =
        let m = dir_of_target t h p.0 p.1 p.2 in
        subst (λ o. IsSome o) (sym m.1) refl

-- a name that moves to a new one
pub renamed_new : (t : Tree) (from name to to_name h : List ℕ) → target t to to_name ≡ None
    → renamed t from name to to_name h ≡ named (unnamed t from name) to to_name h
renamed_new t from name to to_name h none =
    ap (λ (o : Option (List ℕ)). elim o as (λ _. Tree) [
      | None ↦ named (unnamed t from name) to to_name h
      | Some r ↦ if bytes_eq r h then t else let_go (named (unnamed t from name) to to_name h) r
    ]) none

-- WHAT IS KNOWN OF A NODE

-- it is a directory with so many names
pub dir_known : (u t : Tree) (h : List ℕ) (n : ℕ) → u ≡ t → IsSomeAnd (names_at u h) (λ m. n ≡ len m) → IsDir t h
dir_known u t h n same is =
    let m = some_and (names_at u h) (λ m. n ≡ len m) is in
    subst (λ o. IsSome o) (sym (ap (λ v. names_at v h) (sym same) ∙ m.1)) refl

-- it is none
pub leaf_known : (limits : ServerLimits) (live : Records) (u : Tree) (D name h : List ℕ) → IsSound limits live
    → target (tree_of live) D name ≡ Some h → u ≡ tree_of live → ¬ (IsDir u h) → IsNo names_in (tree_of live) h
leaf_known limits live u D name h s leads same other =
    let f = target_of limits live D name h s leads in
    no_names (tree_of live) h (subst (λ o. IsSome o) (sym f.is_child) refl)
    (subst (λ v. ¬ (IsDir v h)) same other)

none_there : (m : Names) → len m ≡ 0 → m ≡ empty
none_there m zero_names = same_answers m empty (λ k.
    none_or_some (get m k) (λ v is. let less = len-remove_old m k v is in absurd (omega arith))
    ∙ sym (get-empty (slice_cmp nat_cmp) k))
  where
    none_or_some : (o : Option (List ℕ)) → ((v : List ℕ) → o ≡ Some v → ⊥) → o ≡ None
    none_or_some None h = refl
    none_or_some (Some v) h = absurd (h v refl)

pub bare_by_len : (u : Tree) (h : List ℕ) (n : ℕ) → IsSomeAnd (names_at u h) (λ m. n ≡ len m) → n ≡ 0 → IsBareDir u h
bare_by_len u h n is zero_names m at =
    let k = some_and (names_at u h) (λ m. n ≡ len m) is in
    let same : k.0 ≡ m = some_same k.1 at in
    none_there m (ap len (sym same) ∙ (sym k.2 ∙ zero_names))

pub empty_by_len : (u t : Tree) (h : List ℕ) (n : ℕ) → u ≡ t → IsSomeAnd (names_at u h) (λ m. n ≡ len m) → n ≡ 0
    → names_at t h ≡ Some empty
empty_by_len u t h n same is zero_names =
    let k = some_and (names_at u h) (λ m. n ≡ len m) is in
    ap (λ v. names_at v h) (sym same) ∙ (k.1 ∙ ap Some (none_there k.0 (sym k.2 ∙ zero_names)))

pub not_bare : (u t : Tree) (h : List ℕ) (n : ℕ) → u ≡ t → IsSomeAnd (names_at u h) (λ m. n ≡ len m) → (n ≡ 0 → ⊥)
    → HasNames t h
not_bare u t h n same is some =
    let k = some_and (names_at u h) (λ m. n ≡ len m) is in
    is_some_and (λ (m : Names). m ≢ empty) (ap (λ v. names_at v h) (sym same) ∙ k.1)
    (λ e. some (k.2 ∙ (ap len e ∙ len-empty (slice_cmp nat_cmp) (List ℕ))))
