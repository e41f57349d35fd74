-- The map from numbers to rows, as it is made row by row.
use Rattle.std.proofs.Common.{◌≡◌, ◌≢◌, inl, inr, ℕ, ◌+◌, ◌<◌, ◌≤◌, Bool, true, false, cond, List, Some, IsSome, is_some, length, slice_get, refl, sym, ap, ◌∙◌, subst, arith}
use Rattle.std.specs.Prelude.{◌==◌}
use Rattle.std.specs.BTreeMap.{BTreeMap, get}
use Rattle.std.specs.Ordering.{nat_cmp, is_eq}
use Rattle.std.specs.Cmp.{unsigned_tied}
use Rattle.std.proofs.lemmas.Bool.{eq-eqb, eqb-true}
use Rattle.std.proofs.lemmas.Option.{slice_get_within}
use Rattle.server_trait.proofs.TreeLaws.{some_and, is_some_and, some_same, one_or_not}
use Rattle.server_trait.specs.declared.bench.ConfEntry.{ConfEntry}
use Rattle.restart.specs.Numbers.{HasNumber, IsNumbered}

-- the row that has a number
pub row_of_number : (rows : List ConfEntry) (i number : ℕ) → HasNumber rows i number →
    (r : ConfEntry) × (slice_get rows i ≡ Some r) × (IsSome r.handle × (r.number ≡ number))
row_of_number rows i number has = some_and (slice_get rows i) (λ r. IsSome r.handle × (r.number ≡ number)) has

pub has_number : (rows : List ConfEntry) (i number : ℕ) (r : ConfEntry) → slice_get rows i ≡ Some r → IsSome r.handle → r.number ≡ number →
    HasNumber rows i number
has_number rows i number r at live is = is_some_and (λ (r : ConfEntry). IsSome r.handle × (r.number ≡ number)) at (live, is)

-- as `IsNumbered`, of the first rows alone
pub record NumberedTo (rows : List ConfEntry) (m : BTreeMap ℕ ℕ) (n : ℕ) : Type 0 where
  pub sound : (number i : ℕ) → get nat_cmp m number ≡ Some i → HasNumber rows i number
  pub complete : (number i : ℕ) → i < n → HasNumber rows i number → IsSome (get nat_cmp m number)

-- with all rows
pub all_numbered : (rows : List ConfEntry) (m : BTreeMap ℕ ℕ) (n : ℕ) → NumberedTo rows m n → length rows ≤ n → IsNumbered rows m
all_numbered rows m n k all = record {
  sound = k.sound;
  complete = λ number i has.
      let r = row_of_number rows i number has in
      let b = slice_get_within rows i r.0 r.1 in
      k.complete number i (omega (arith, b, all)) has;
}

-- a row without a handle has no number
pub numbered_past : (rows : List ConfEntry) (m : BTreeMap ℕ ℕ) (n : ℕ) (r : ConfEntry) → slice_get rows n ≡ Some r → is_some r.handle ≡ false →
    NumberedTo rows m n → NumberedTo rows m (n + 1)
numbered_past rows m n r at none k = record {
  sound = k.sound;
  complete = λ number i below has. elim (one_or_not i n) as (λ _. IsSome (get nat_cmp m number)) [
    | inl e ↦
        let x = row_of_number rows i number has in
        let same : x.0 ≡ r = some_same x.1 (ap (slice_get rows) e ∙ at) in
        absurd (let bad : true ≡ false = sym x.2.0 ∙ ap (λ (r : ConfEntry). is_some r.handle) same ∙ none in cc)
    | inr ne ↦ k.complete number i (omega (arith, below, ne)) has
  ];
}

-- the number of one row more is put in
module _ (rows : List ConfEntry) (m m' : BTreeMap ℕ ℕ) (n : ℕ) (r : ConfEntry) (at : slice_get rows n ≡ Some r) (live : IsSome r.handle)
    (put : (q : ℕ) → get nat_cmp m' q ≡ cond (is_eq (nat_cmp r.number q)) (Some n) (get nat_cmp m q)) where
  here : (q : ℕ) → r.number ≡ q → get nat_cmp m' q ≡ Some n
  here q is = put q ∙ ap (λ b. cond b (Some n) (get nat_cmp m q)) (unsigned_tied r.number q ∙ eq-eqb r.number q is)

  pub numbered_more : NumberedTo rows m n → NumberedTo rows m' (n + 1)
  numbered_more k = record {
    sound = λ number i found. elim (one_or_not r.number number) as (λ _. HasNumber rows i number) [
      | inl e ↦
          let same : n ≡ i = (let s : Some n ≡ Some i = sym (here number e) ∙ found in cc) in
          subst (λ i. HasNumber rows i number) same (has_number rows n number r at live e)
      | inr ne ↦ k.sound number i (sym (other number ne) ∙ found)
    ];
    complete = λ number i below has. elim (one_or_not r.number number) as (λ _. IsSome (get nat_cmp m' number)) [
      | inl e ↦ ap is_some (here number e)
      | inr ne ↦ ap is_some (other number ne) ∙ k.complete number i (elim (one_or_not i n) as (λ _. i < n) [
        | inl e ↦
            let x = row_of_number rows i number has in
            absurd (ne (ap (λ (r : ConfEntry). r.number) (some_same at (ap (slice_get rows) (sym e) ∙ x.1)) ∙ x.2.1))
        | inr apart ↦ omega (arith, below, apart)
      ]) has
    ];
  }
    where
      other : (q : ℕ) → r.number ≢ q → get nat_cmp m' q ≡ get nat_cmp m q
      other q ne = put q ∙ ap (λ b. cond b (Some n) (get nat_cmp m q)) (unsigned_tied r.number q ∙ differ (r.number == q) refl)
        where
          differ : (b : Bool) → (r.number == q) ≡ b → (r.number == q) ≡ false
          differ true is = absurd (ne (eqb-true r.number q is))
          differ false is = is
