-- The entries of a `BTreeMap` read as a `FinMap`: what it finds, and what it is after a change.
use Rattle.std.proofs.Common.{◌≡◌, List, [], ◌∷◌, cond, sym, ap, ◌∙◌, refl, Option, Some, None}
use Rattle.std.specs.Cmp.{IsTotalOrder, eq_by_cmp_equiv}
use Rattle.std.specs.Cmp.Lexicographic.{slice_cmp}
use Rattle.std.specs.Ordering.{eq_by_cmp, nat_cmp}
use Rattle.std.specs.declared.cmp.Ordering.{Ordering}
use Rattle.std.specs.FinMap.{IsAntisymmetric, find, from_entries, same_map, get-from_entries, get-insert, get-remove, slice_cmp-IsAntisymmetric, nat_cmp-IsAntisymmetric}
use Rattle.std.specs.FinMap as map
use Rattle.std.specs.Map.{lookup}

pub bytes_exact : IsAntisymmetric (slice_cmp nat_cmp)
bytes_exact = slice_cmp-IsAntisymmetric nat_cmp-IsAntisymmetric

module _ {K X : Type 0} {R : K → K → Ordering} (total : IsTotalOrder R) where
  find-lookup : (es : List (K × X)) (q : K) → find R q es ≡ lookup (eq_by_cmp R q) es
  find-lookup [] q = refl
  find-lookup (e ∷ es) q = ap (cond (eq_by_cmp R q e.0) (Some e.1)) (find-lookup es q)

  -- the view finds what the map finds
  pub get-view : (es : List (K × X)) (q : K) → map.get (from_entries {R = R} es) q ≡ lookup (eq_by_cmp R q) es
  get-view es q = get-from_entries total es q ∙ find-lookup es q

  -- fs has v at k, and elsewhere what es has: the first part of std's `Updates`
  pub record Changes (es fs : List (K × X)) (k : K) (v : Option X) : Type 0 where
    pub at : (q : K) → lookup (eq_by_cmp R q) fs ≡ cond (eq_by_cmp R k q) v (lookup (eq_by_cmp R q) es)

  module _ (exact : IsAntisymmetric R) where
    turn : (es fs : List (K × X)) (k : K) (v : Option X) → Changes es fs k v → (q : K)
        → map.get (from_entries {R = R} fs) q ≡ cond (eq_by_cmp R q k) v (map.get (from_entries {R = R} es) q)
    turn es fs k v h q =
        get-view fs q ∙ h.at q
        ∙ ap (λ b. cond b v (lookup (eq_by_cmp R q) es)) ((eq_by_cmp_equiv total).symm k q)
        ∙ ap (cond (eq_by_cmp R q k) v) (sym (get-view es q))

    -- an insertion into the map is one into the view
    pub insert-view : (es fs : List (K × X)) (k : K) (v : X) → Changes es fs k (Some v)
        → from_entries {R = R} fs ≡ map.insert (from_entries es) k v
    insert-view es fs k v h = same_map total exact _ _ (λ q. turn es fs k (Some v) h q
        ∙ sym (get-insert total (from_entries es) k v q))

    -- a removal from the map is one from the view
    pub remove-view : (es fs : List (K × X)) (k : K) → Changes es fs k None
        → from_entries {R = R} fs ≡ map.remove (from_entries es) k
    remove-view es fs k h = same_map total exact _ _ (λ q. turn es fs k None h q
        ∙ sym (get-remove total (from_entries es) k q))
