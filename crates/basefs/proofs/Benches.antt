-- What a bench lacks.
use Rattle.std.proofs.Common.{◌≡◌, ℕ, zero, suc, ◌+◌, ◌*◌, ◌<◌, ◌≤◌, Bool, true, false, cond, ltb, List, [], ◌∷◌, length, drop, get_or, slice_get, Some, None, refl, sym, ap, subst, ◌∙◌, arith}
use Rattle.std.specs.List.{position_from}
use Rattle.std.proofs.lemmas.List.{drop_more, drop_all}
use Rattle.server_trait.specs.declared.ServerLimits.{ServerLimits}
use Rattle.log_format.specs.declared.Header.{Header}
use Rattle.basefs.specs.declared.status.Status.TheVariants as status
use Rattle.basefs.specs.Log.{too_few, too_small, is_small}
use Rattle.basefs.specs.Replayed.{Refuses}

module _ {X : Type 0} (t : X → Bool) (xs : List X) (r : ℕ) (x : X) (within : r < length xs) (is : x ≡ get_or xs r x) (all : position_from t 0 xs ≡ position_from t r (drop r xs)) where
  split : position_from t 0 xs ≡ cond (t x) (Some r) (position_from t (r + 1) (drop (r + 1) xs))
  split = all ∙ ap (position_from t r) (drop_more xs r x within ∙ ap (λ (y : X). y ∷ drop (r + 1) xs) (sym is))

  -- the next one passes
  pub passes_here : t x ≡ true → position_from t 0 xs ≡ Some r
  passes_here e = split ∙ ap (λ b. cond b (Some r) (position_from t (r + 1) (drop (r + 1) xs))) e

  -- it does not
  pub passes_later : t x ≡ false → position_from t 0 xs ≡ position_from t (r + 1) (drop (r + 1) xs)
  passes_later e = split ∙ ap (λ b. cond b (Some r) (position_from t (r + 1) (drop (r + 1) xs))) e

-- none passes
pub passes_never : {X : Type 0} (t : X → Bool) (xs : List X) (r : ℕ) → length xs ≤ r → position_from t 0 xs ≡ position_from t r (drop r xs) → position_from t 0 xs ≡ None
passes_never t xs r le all = all ∙ ap (position_from t r) (drop_all r xs le)

-- there are too few servers
pub refuses_few : {X : Type 0} (most : X → ServerLimits) (h : Header) (servers : List X) → length servers < 3 * h.f + 1 → Refuses most h servers (Some (status.TooFewServers (length servers) (3 * h.f + 1)))
refuses_few most h servers few =
    let is : ltb (length servers) (3 * h.f + 1) ≡ true = grind (arith, few) in
    (too_few (length servers) (3 * h.f + 1), refl, tt, λ log. rw is refl)

-- there are enough of them, and the first that is too small is this one
pub refuses_small : {X : Type 0} (most : X → ServerLimits) (h : Header) (servers : List X) (s : ℕ) → 3 * h.f + 1 ≤ length servers → position_from (λ s. is_small h (most s)) 0 servers ≡ Some s
    → Refuses most h servers (Some (status.ServerTooSmall s))
refuses_small most h servers s enough e =
    let is : ltb (length servers) (3 * h.f + 1) ≡ false = grind (arith, enough) in
    (too_small s, refl, tt, λ log. rw (is, e) refl)

first_fails : {X : Type 0} (t : X → Bool) (n r : ℕ) (xs : List X) (x : X) → slice_get xs r ≡ Some x →
    position_from t n xs ≡ None → t x ≡ false
first_fails t n r [] x at none = absurd (let g : None ≡ Some x = at in cc)
first_fails t n zero (y ∷ xs) x at none =
    let same : y ≡ x = (let g : Some y ≡ Some x = at in cc) in
    subst (λ z. t z ≡ false) same (by (t y) refl none)
  where
    by : (b : Bool) → t y ≡ b → cond b (Some n) (position_from t (n + 1) xs) ≡ None → t y ≡ false
    by true e none = absurd (let g : Some n ≡ None = none in cc)
    by false e none = e
first_fails t n (suc r) (y ∷ xs) x at none = by (first_fails t (n + 1) r xs x at) (t y) none
  where
    by : (position_from t (n + 1) xs ≡ None → t x ≡ false) → (b : Bool) →
        cond b (Some n) (position_from t (n + 1) xs) ≡ None → t x ≡ false
    by rest true none = absurd (let g : Some n ≡ None = none in cc)
    by rest false none = rest none

-- there are enough of them, and none is too small
pub refuses_none : {X : Type 0} (most : X → ServerLimits) (h : Header) (servers : List X) →
    3 * h.f + 1 ≤ length servers → position_from (λ s. is_small h (most s)) 0 servers ≡ None → Refuses most h servers None
refuses_none most h servers enough e =
    let is : ltb (length servers) (3 * h.f + 1) ≡ false = grind (arith, enough) in (
      enough,
      λ r x at. first_fails (λ s. is_small h (most s)) 0 r servers x at e,
      λ log. rw (is, e) refl,
    )
