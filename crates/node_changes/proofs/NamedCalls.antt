-- Tests that begin with those of a directory and of a name in it.
use Rattle.std.proofs.Common.{◌≡◌, ℕ, List, [], ◌∷◌, ◌++◌, Some, Result, Ok, Err, sym, ap, ◌∙◌}
use Rattle.std.proofs.lemmas.List.{append_assoc}
use Rattle.nfs2_types.specs.declared.Stat.{Stat}
use Rattle.nfs2_types.specs.Names.{is_dot}
use Rattle.abs_model.specs.declared.entry.Entry.{Entry}
use Rattle.abs_model.specs.Machine.{Refusal, ◌answers◌, first_of, in_dir}
use Rattle.conf_map.specs.Found.{Finds, name_tests}
use Rattle.conf_map.proofs.Finding.{first_then, first_stops}

module _ (A : List Entry) (dir name : List ℕ) (dot : Stat) (rest : List Refusal) where
  -- the tests of the name, and then the rest
  abbrev pub all_tests : List Refusal
  all_tests = in_dir A dir name ++ (is_dot name answers dot) ∷ rest

  in_parts : first_of all_tests ≡ first_of (name_tests A dir name dot ++ rest)
  in_parts = ap first_of (sym (append_assoc (in_dir A dir name) ((is_dot name answers dot) ∷ []) rest))

  module _ {X : Type 0} {IsFound : X → Type 0} {r : Result X Stat} (finds : Finds (name_tests A dir name dot) IsFound r)
    where
      -- a name that is refused
      pub named_refused : {stat : Stat} → r ≡ Err stat → first_of all_tests ≡ Some stat
      named_refused {stat} is = in_parts ∙ first_stops (name_tests A dir name dot) rest (finds.refused stat is)

      -- and where it is not the rest decides
      pub named_then : {x : X} → r ≡ Ok x → first_of all_tests ≡ first_of rest
      named_then {x} is = in_parts ∙ first_then (name_tests A dir name dot) rest (finds.found x is).0
