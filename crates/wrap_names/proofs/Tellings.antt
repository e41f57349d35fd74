-- Notices one after the other.
use Rattle.std.proofs.Common.{ℕ, List, [], ◌∷◌, ◌++◌, subst}
use Rattle.abs_model.specs.declared.entry.Entry.{Entry}
use Rattle.conf_map.specs.Notice.{NoticedAll}

module _ {M : Type 0} (noticed : M → List Entry → ℕ → M → Type 0) (A : List Entry) where
  -- some and then others
  pub noticed_more : (xs ys : List ℕ) (old next new : M) → NoticedAll noticed A old xs next →
      NoticedAll noticed A next ys new →
      NoticedAll noticed A old (xs ++ ys) new
  noticed_more [] ys old next new first more = subst (λ m. NoticedAll noticed A m ys new) first more
  noticed_more (x ∷ xs) ys old next new first more =
      (first.0, first.1, noticed_more xs ys first.0 next new first.2 more)
