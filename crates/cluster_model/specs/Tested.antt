-- A service whose fitting requests and good arrays are told by tests.
use Rattle.std.specs.Prelude.{◌≡◌, ℕ, Bool, true, List, Option}
use Rattle.abs_model.specs.declared.Entry.{Entry}
use Rattle.cluster_model.specs.declared.request.Request.{Request}
use Rattle.nfs2_types.specs.declared.Word.{Word}
use Rattle.cluster_model.specs.Service.{Service}

-- a service whose fitting requests and good arrays are told by tests
pub record Tested : Type 0 where
  pub f : ℕ
  pub k : ℕ
  pub empty : List Entry
  pub next : List Entry → Request → List Entry
  pub word : List Entry → Request → Word
  pub told : List Entry → Request → List ℕ
  pub saving : List Entry → List ℕ → List ℕ
  pub text : ℕ → Entry → List ℕ
  pub digest : List ℕ → List ℕ
  pub levels : ℕ
  pub node : ℕ → ℕ → List (List ℕ) → List ℕ
  pub parts : List ℕ → List (List ℕ)
  pub fits : Request → Bool
  pub is_good : List Entry → Bool
  pub scratched : List Entry → ℕ → ℕ → List ℕ → Option (List Entry)

-- as a service
abbrev pub tested : Tested → Service
tested T = record {
  f = T.f;
  k = T.k;
  empty = T.empty;
  next = T.next;
  word = T.word;
  told = T.told;
  saving = T.saving;
  text = T.text;
  digest = T.digest;
  levels = T.levels;
  node = T.node;
  parts = T.parts;
  fits = λ q. T.fits q ≡ true;
  good = λ a. T.is_good a ≡ true;
  scratched = T.scratched;
}
