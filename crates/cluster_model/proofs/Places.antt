-- The arrays and words at the places do not change when requests are added.
use Rattle.std.proofs.Common.{◌≡◌, ℕ, zero, suc, ◌<◌, ◌≤◌, List, [], ◌∷◌, ◌++◌, length, refl, ap, arith}
use Rattle.std.specs.Prelude.{slice_get, Some}
use Rattle.cluster_model.specs.declared.request.Request.{Request}
use Rattle.cluster_model.specs.Service.{Service, after, word_of, array_at, said_at}

pub slice_get-append : {X : Type 0} (xs ys : List X) (i : ℕ) → i < length xs → slice_get (xs ++ ys) i ≡ slice_get xs i
slice_get-append [] ys i h = absurd (omega arith)
slice_get-append (x ∷ xs) ys zero h = refl
slice_get-append (x ∷ xs) ys (suc i) h = slice_get-append xs ys i (omega arith)

pub array_at-append : (S : Service) (q : List Request) (r : Request) (p : ℕ) → p ≤ length q →
    array_at S (q ++ r ∷ []) p ≡ array_at S q p
array_at-append S q r zero h = refl
array_at-append S q r (suc p) h =
    let e : array_at S (q ++ r ∷ []) p ≡ array_at S q p = array_at-append S q r p (omega arith) in
    let g : slice_get (q ++ r ∷ []) p ≡ slice_get q p = slice_get-append q (r ∷ []) p (omega arith) in
    rw (e, g)

pub said_at-append : (S : Service) (q : List Request) (r : Request) (p : ℕ) → p ≤ length q →
    said_at S (q ++ r ∷ []) p ≡ said_at S q p
said_at-append S q r zero h = refl
said_at-append S q r (suc p) h =
    let e : array_at S (q ++ r ∷ []) p ≡ array_at S q p = array_at-append S q r p (omega arith) in
    let g : slice_get (q ++ r ∷ []) p ≡ slice_get q p = slice_get-append q (r ∷ []) p (omega arith) in
    rw (e, g)

-- the next place
pub array_at-next : (S : Service) (q : List Request) (p : ℕ) (r : Request) → slice_get q p ≡ Some r →
    array_at S q (suc p) ≡ S.next (array_at S q p) r
array_at-next S q p r e = ap (after S (array_at S q p)) e

pub said_at-next : (S : Service) (q : List Request) (p : ℕ) (r : Request) → slice_get q p ≡ Some r →
    said_at S q (suc p) ≡ S.word (array_at S q p) r
said_at-next S q p r e = ap (word_of S (array_at S q p)) e

pub slice_get-within : {X : Type 0} (xs : List X) (i : ℕ) (x : X) → slice_get xs i ≡ Some x → i < length xs
slice_get-within [] i x e = absurd (cc)
slice_get-within (y ∷ xs) zero x e = omega arith
slice_get-within (y ∷ xs) (suc i) x e = let h : i < length xs = slice_get-within xs i x e in omega arith
