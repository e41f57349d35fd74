-- Searches: what they find, and by which test they are refused.
use Rattle.std.proofs.Common.{◌≡◌, List, ◌++◌, Some, None, Result, Ok, Err, ap, ◌∙◌, subst}
use Rattle.nfs2_types.specs.declared.Stat.{Stat}
use Rattle.abs_model.specs.Machine.{Refusal, first_of}
use Rattle.conf_map.specs.Found.{Finds}
use Rattle.conf_map.proofs.Answered.{or_first, first_of-append}

-- where none of the first tests holds the rest decides
pub first_then : (tests rest : List Refusal) → first_of tests ≡ None → first_of (tests ++ rest) ≡ first_of rest
first_then tests rest none = first_of-append tests rest ∙ ap (λ o. or_first o (first_of rest)) none

-- and where one does it decides, whatever is tested then
pub first_stops : (tests rest : List Refusal) {s : Stat} → first_of tests ≡ Some s → first_of (tests ++ rest) ≡ Some s
first_stops tests rest first = first_of-append tests rest ∙ ap (λ o. or_first o (first_of rest)) first

ok_or_else : {X : Type 0} → X → Result X Stat → X
ok_or_else d (Ok x) = x
ok_or_else d (Err s) = d

err_or_else : {X : Type 0} → Stat → Result X Stat → Stat
err_or_else d (Ok x) = d
err_or_else d (Err s) = s

module _ {X : Type 0} {tests : List Refusal} {IsFound : X → Type 0} where
  -- found, where none of the tests holds
  pub finds_ok : {x : X} → first_of tests ≡ None → IsFound x → Finds tests IsFound (Ok x)
  unfolding ok_or_else
  finds_ok {x} none is = record {
    found = λ y e. (none, subst IsFound (ap (ok_or_else x) e) is);
    refused = λ s e. absurd cc;
  }

  -- refused by the first of the tests
  pub finds_err : {s : Stat} → first_of tests ≡ Some s → Finds tests IsFound (Err s)
  unfolding err_or_else
  finds_err {s} first = record {
    found = λ y e. absurd cc;
    refused = λ stat e. first ∙ ap (λ r. Some (err_or_else s r)) e;
  }

  -- a search by more tests, whose first hold all of them not
  pub finds_then : {r : Result X Stat} (first : List Refusal) → first_of first ≡ None → Finds tests IsFound r →
      Finds (first ++ tests) IsFound r
  finds_then first none finds = record {
    found = λ x e. let f = finds.found x e in (first_then first tests none ∙ f.0, f.1);
    refused = λ s e. first_then first tests none ∙ finds.refused s e;
  }

  -- the same search, by tests that come to the same
  pub finds_by : {r : Result X Stat} (others : List Refusal) → first_of others ≡ first_of tests →
      Finds tests IsFound r → Finds others IsFound r
  finds_by others same finds = record {
    found = λ x e. let f = finds.found x e in (same ∙ f.0, f.1);
    refused = λ s e. same ∙ finds.refused s e;
  }
