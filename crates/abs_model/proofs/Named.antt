-- what a handle names
use Rattle.std.proofs.Common.{◌≡◌, ℕ, List, ap, Option, Some, length}
use Rattle.std.specs.Prelude.{unwrap_or}
use Rattle.abs_model.specs.declared.entry.Entry.{Entry}
use Rattle.abs_model.specs.Array.{at, live}

pub at-live : (A : List Entry) (h : List ℕ) (i : ℕ) → live A h ≡ Some i → at A h ≡ i
at-live A h i e = ap (λ (o : Option ℕ). unwrap_or o (length A)) e
