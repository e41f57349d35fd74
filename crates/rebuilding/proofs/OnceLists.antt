-- Lists in which each name stands once: without a name they still do, and are shorter by one.
use Rattle.std.proofs.Common.{◌≡◌, ◌≢◌, ℕ, zero, suc, ◌+◌, List, [], ◌∷◌, Bool, true, false, cond, Option, Some, None, length, slice_get, refl, sym, ap, ◌∙◌, subst, arith}
use Rattle.std.specs.Prelude.{not, bytes_eq}
use Rattle.std.proofs.lemmas.Slice.Eq.{bytes_eq-Decides}
use Rattle.server_trait.proofs.TreeLaws.{some_same, some_none}
use Rattle.abs_model.specs.declared.entry.NameRow.{NameRow}
use Rattle.abs_model.specs.Objects.{row_of, without}
use Rattle.abs_model.proofs.RowLists.{row_of-without_none, without_absent}
use Rattle.conf_map.proofs.RowFacts.{found_at}
use Rattle.staging.specs.Staged.{StandOnce}
use Rattle.staging.proofs.Begins.{past_head}
use Rattle.rebuilding.proofs.Makings.{once_more}

module _ (r : NameRow) (S : List NameRow) (s : StandOnce (r ∷ S)) where
  differs : (i : ℕ) (x : NameRow) → slice_get S i ≡ Some x → x.name ≢ r.name
  differs i x at e = let bad : suc i ≡ 0 = s.once (suc i) 0 x r at refl e in absurd (omega (arith, bad))

  pub none_else : row_of r.name S ≡ None
  none_else = by_row (row_of r.name S) refl
    where
      by_row : (o : Option NameRow) → row_of r.name S ≡ o → row_of r.name S ≡ None
      by_row None is = is
      by_row (Some x) is = let f = found_at S r.name x is in absurd (differs f.0 x f.1 f.2)

  pub once_less : StandOnce S
  once_less = record {
    found = λ i x at. sym (past_head r S x.name (differs i x at)) ∙ s.found (suc i) x at;
    once = λ i j a b at_i at_j same. let e = s.once (suc i) (suc j) a b at_i at_j same in omega (arith, e);
  }

pub once_without : (name : List ℕ) (S : List NameRow) → StandOnce S → StandOnce (without name S)
once_without name [] s = s
once_without name (r ∷ S) s = by_test (bytes_eq r.name name) (once_without name S (once_less r S s))
  where
    by_test : (b : Bool) → StandOnce (without name S) → StandOnce (cond (not b) (r ∷ without name S) (without name S))
    by_test true rest = rest
    by_test false rest = once_more (without name S) r rest (row_of-without_none r.name name S (none_else r S s))

pub length_without : (name : List ℕ) (S : List NameRow) (r : NameRow) → StandOnce S → row_of name S ≡ Some r → length (without name S) + 1 ≡ length S
length_without name [] r s found = absurd (let bad : None ≡ Some r = found in cc)
length_without name (x ∷ S) r s found = by_test (bytes_eq x.name name) refl found (λ k. length_without name S r (once_less x S s) k)
  where
    by_test : (b : Bool) → bytes_eq x.name name ≡ b → cond b (Some x) (row_of name S) ≡ Some r → (row_of name S ≡ Some r → length (without name S) + 1 ≡ length S) →
        length (cond (not b) (x ∷ without name S) (without name S)) + 1 ≡ suc (length S)
    by_test true is k rest =
        let none : row_of name S ≡ None = ap (λ n. row_of n S) (sym ((bytes_eq-Decides x.name name).0 is)) ∙ none_else x S s in
        let same = ap length (without_absent name S none) in
        omega (arith, same)
    by_test false is k rest = let r = rest k in omega (arith, r)
