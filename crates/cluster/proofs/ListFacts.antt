-- Lists read at a place, pairs looked up, and what is counted in two lists alike.
use Rattle.std.proofs.Common.{◌≡◌, ◌≢◌, ℕ, zero, suc, Bool, true, false, cond, not, List, [], ◌∷◌, ◌++◌, map, length, slice_get, Some, None, refl, sym, ◌∙◌, ap, arith}
use Rattle.std.specs.Prelude.{slice_index_or, ◌==◌}
use Rattle.std.specs.List.{count_by, flat_map}
use Rattle.std.proofs.lemmas.Bool.{eqb-true}
use Rattle.std.proofs.lemmas.Bool.Decides.{nat_tests}
use Rattle.std.proofs.lemmas.List.{append_assoc}
use Rattle.server_trait.proofs.TreeLaws.{some_same}
use Rattle.cluster_model.specs.State.{lookup}
use Rattle.cluster_model.specs.Moments.{without}
use Rattle.cluster_model.proofs.Counting.{bit, count_by-cons}

-- what is read by `slice_get` is what is read with a value for those that are not there
pub read_same : {X : Type 0} (xs ys : List X) (k : ℕ) (d : X) → slice_get xs k ≡ slice_get ys k →
    slice_index_or xs k d ≡ slice_index_or ys k d
read_same [] [] k d e = refl
read_same [] (y ∷ ys) zero d e = absurd (cc)
read_same [] (y ∷ ys) (suc k) d e = read_same [] ys k d e
read_same (x ∷ xs) [] zero d e = absurd (cc)
read_same (x ∷ xs) [] (suc k) d e = read_same xs [] k d e
read_same (x ∷ xs) (y ∷ ys) zero d e = some_same refl e
read_same (x ∷ xs) (y ∷ ys) (suc k) d e = read_same xs ys k d e

pub read_is : {X : Type 0} (xs : List X) (k : ℕ) (x d : X) → slice_get xs k ≡ Some x → slice_index_or xs k d ≡ x
read_is [] k x d e = absurd (cc)
read_is (y ∷ xs) zero x d e = some_same refl e
read_is (y ∷ xs) (suc k) x d e = read_is xs k x d e

-- counts of two lists whose elements pass alike
pub count_same : {A B : Type 0} (f : A → Bool) (g : B → Bool) (xs : List A) (ys : List B) → length xs ≡ length ys →
    ((k : ℕ) (x : A) (y : B) → slice_get xs k ≡ Some x → slice_get ys k ≡ Some y → f x ≡ g y) →
    count_by f xs ≡ count_by g ys
count_same f g [] [] long h = refl
count_same f g [] (y ∷ ys) long h = absurd (omega arith)
count_same f g (x ∷ xs) [] long h = absurd (omega arith)
count_same f g (x ∷ xs) (y ∷ ys) long h =
    let rest : count_by f xs ≡ count_by g ys = count_same f g xs ys (omega arith) (λ k. h (suc k)) in
    let one : bit (f x) ≡ bit (g y) = ap bit (h 0 x y refl refl) in
    rw (count_by-cons f x xs, count_by-cons g y ys) (omega arith)

pub lookup-append_none : {X : Type 0} (p : ℕ) (w : X) (ds : List (ℕ × X)) → lookup p ds ≡ None →
    lookup p (ds ++ (p, w) ∷ []) ≡ Some w
lookup-append_none p w [] e =
    (let t : (p == p) ≡ true = grind (arith, nat_tests) in ap (λ b. cond b (Some w) None) t)
lookup-append_none {X} p w (d ∷ ds) e = by (lookup-append_none p w ds) (d.0 == p) e
  where
    by : (lookup p ds ≡ None → lookup p (ds ++ (p, w) ∷ []) ≡ Some w) → (b : Bool) →
        cond b (Some d.1) (lookup p ds) ≡ None → cond b (Some d.1) (lookup p (ds ++ (p, w) ∷ [])) ≡ Some w
    by rest true e = absurd (cc)
    by rest false e = rest e

pub lookup-append_other : {X : Type 0} (p q : ℕ) (w : X) (ds : List (ℕ × X)) → q ≢ p →
    lookup q (ds ++ (p, w) ∷ []) ≡ lookup q ds
lookup-append_other p q w [] ne =
    (let t : (p == q) ≡ false = grind (arith, nat_tests) in ap (λ b. cond b (Some w) None) t)
lookup-append_other p q w (d ∷ ds) ne = ap (cond (d.0 == q) (Some d.1)) (lookup-append_other p q w ds ne)

pub without_same : {X : Type 0} (p : ℕ) (ws : List (ℕ × X)) → lookup p (without p ws) ≡ None
without_same p [] = refl
without_same {X} p (w ∷ ws) = by (without_same p ws) (w.0 == p) refl
  where
    by : lookup p (without p ws) ≡ None → (b : Bool) → (w.0 == p) ≡ b →
        lookup p (cond (not b) (w ∷ without p ws) (without p ws)) ≡ None
    by rest true t = rest
    by rest false t = ap (λ c. cond c (Some w.1) (lookup p (without p ws))) t ∙ rest

pub without_other : {X : Type 0} (p q : ℕ) (ws : List (ℕ × X)) → q ≢ p → lookup q (without p ws) ≡ lookup q ws
without_other p q [] ne = refl
without_other {X} p q (w ∷ ws) ne = by (without_other p q ws ne) (w.0 == p) refl
  where
    by : lookup q (without p ws) ≡ lookup q ws → (b : Bool) → (w.0 == p) ≡ b →
        lookup q (cond (not b) (w ∷ without p ws) (without p ws)) ≡ cond (w.0 == q) (Some w.1) (lookup q ws)
    by rest true t = (
        let e : w.0 ≡ p = eqb-true w.0 p t in
        let f : (w.0 == q) ≡ false = grind (arith, nat_tests) in
        rest ∙ sym (ap (λ c. cond c (Some w.1) (lookup q ws)) f)
        )
    by rest false t = ap (cond (w.0 == q) (Some w.1)) rest

pub map-append : {A B : Type 0} (f : A → B) (xs ys : List A) → map f (xs ++ ys) ≡ map f xs ++ map f ys
map-append f [] ys = refl
map-append f (x ∷ xs) ys = ap (λ zs. f x ∷ zs) (map-append f xs ys)

pub flat_map-append : {A B : Type 0} (f : A → List B) (xs ys : List A) →
    flat_map f (xs ++ ys) ≡ flat_map f xs ++ flat_map f ys
flat_map-append f [] ys = refl
flat_map-append f (x ∷ xs) ys = ap (λ zs. f x ++ zs) (flat_map-append f xs ys)
    ∙ sym (append_assoc (f x) (flat_map f xs) (flat_map f ys))
