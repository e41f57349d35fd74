-- Digests in the words of the model, for a service with the real ones.
use Rattle.std.proofs.Common.{◌≡◌, ℕ, zero, suc, ◌+◌, ◌*◌, List, [], ◌∷◌, ◌++◌, map, refl, sym, ap, ◌∙◌, arith}
use Rattle.std.specs.Prelude.{zip}
use Rattle.sha2.specs.Sha256.{sha256}
use Rattle.abs_text.specs.Text.{node_text}
use Rattle.cluster_model.specs.Service.{Service}
use Rattle.cluster_model.specs.Tree as tree
use Rattle.cluster_model.specs.Walk.{sought}
use Rattle.cluster_model.proofs.Growing.{fun_ext}
use Rattle.partition_tree.specs.Digests.{numbers, children, digest_at}
use Rattle.state_transfer.specs.Stand.{differing, expected}
use Rattle.state_transfer.specs.Got.{IsReal}

-- the sixteen numbers below a node

numbers_push : (s n : ℕ) → numbers s (suc n) ≡ numbers s n ++ (s + n) ∷ []
numbers_push s zero = let e : s ≡ s + 0 = omega arith in ap (λ (k : ℕ). k ∷ []) e
numbers_push s (suc n) =
    let e : suc s + n ≡ s + suc n = omega arith in
    ap (λ (t : List ℕ). s ∷ t) (numbers_push (suc s) n ∙ ap (λ (k : ℕ). numbers (suc s) n ++ k ∷ []) e)

map_push : (f : ℕ → ℕ) (xs : List ℕ) (x : ℕ) → map f (xs ++ x ∷ []) ≡ map f xs ++ f x ∷ []
map_push f [] x = refl
map_push f (y ∷ ys) x = ap (λ (t : List ℕ). f y ∷ t) (map_push f ys x)

numbers_below : (s n : ℕ) → map (λ j. s + j) (tree.below n) ≡ numbers s n
numbers_below s zero = refl
numbers_below s (suc n) =
    map_push (λ j. s + j) (tree.below n) n
    ∙ ap (λ (t : List ℕ). t ++ (s + n) ∷ []) (numbers_below s n)
    ∙ sym (numbers_push s n)

pub children_same : (k : ℕ) → tree.children k ≡ children k
children_same k = numbers_below (16 * k) 16

-- digests

module _ (S : Service) (real : IsReal S) (leaves : List (List ℕ)) where
  pub digests_same : (l k : ℕ) → tree.digest_at S leaves l k ≡ digest_at leaves l k
  digests_same zero k = refl
  digests_same (suc l) k =
      let below : tree.digest_at S leaves l ≡ digest_at leaves l = fun_ext (digests_same l) in
      real.digest (S.node (suc l) k (map (tree.digest_at S leaves l) (tree.children k)))
      ∙ ap sha256 (real.node (suc l) k (map (tree.digest_at S leaves l) (tree.children k))
      ∙ ap (λ (f : ℕ → List ℕ). node_text (suc l) k (map f (tree.children k))) below
      ∙ ap (λ (ks : List ℕ). node_text (suc l) k (map (digest_at leaves l) ks)) (children_same k))

  -- what a walk seeks, and what it expects below a node
  pub sought_is : (l : ℕ) (xs : List (ℕ × List ℕ)) → sought S leaves l xs ≡ differing (digest_at leaves) l xs
  sought_is l xs =
      let same : tree.digest_at S leaves l ≡ digest_at leaves l = fun_ext (digests_same l) in
      ap (λ (f : ℕ → List ℕ). differing (λ _. f) l xs) same

  pub expected_is : (k : ℕ) (t : List ℕ) → zip (tree.children k) (S.parts t) ≡ expected k t
  expected_is k t = ap (λ (ks : List ℕ). zip ks (S.parts t)) (children_same k)
      ∙ ap (λ (ds : List (List ℕ)). zip (children k) ds) (real.parts t)
