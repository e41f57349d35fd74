-- Rows that are changed one after the other.
use Rattle.std.proofs.Common.{◌≡◌, inl, inr, ℕ, zero, suc, ◌+◌, ◌<◌, ◌≤◌, List, [], ◌∷◌, Option, None, get_or, Some, length, slice_get, slice_set, refl, sym, ap, ◌∙◌, arith}
use Rattle.std.specs.Option.{option_and_then}
use Rattle.std.proofs.lemmas.Bool.{cases_lt}
use Rattle.std.proofs.lemmas.List.{length-set}
use Rattle.std.proofs.lemmas.Option.{slice_get_within, slice_get-get_or}
use Rattle.server_trait.proofs.TreeLaws.{some_none, some_same, and_then_some, one_or_not, slice_get-along}
use Rattle.server_trait.specs.declared.bench.ConfEntry.{ConfEntry}
use Rattle.conf_map.specs.Tables.{IsUnshared, emptied}
use Rattle.conf_map.proofs.InStep.{slice_get-set_same, slice_get-set_other}
use Rattle.restart.specs.Rows.{AreApart, handle_of}

pub row_there : (rows : List ConfEntry) (i : ℕ) → i < length rows → (r : ConfEntry) × (slice_get rows i ≡ Some r)
row_there [] i below = absurd (omega (arith, below))
row_there (r ∷ rows) zero below = (r, refl)
row_there (r ∷ rows) (suc i) below = row_there rows i (omega (arith, below))

-- the first rows are changed, and the others are as they were
pub record AreChanged (f : ℕ → ConfEntry → ConfEntry) (old new : List ConfEntry) (n : ℕ) : Type 0 where
  pub size : length new ≡ length old
  pub first : (j : ℕ) (r : ConfEntry) → j < n → slice_get old j ≡ Some r → slice_get new j ≡ Some (f j r)
  pub rest : (j : ℕ) → n ≤ j → slice_get new j ≡ slice_get old j

pub none_changed : (f : ℕ → ConfEntry → ConfEntry) (rows : List ConfEntry) → AreChanged f rows rows 0
none_changed f rows = record { size = refl; first = λ j r below. absurd (omega (arith, below)); rest = λ j _. refl }

pub change_more : (f : ℕ → ConfEntry → ConfEntry) (old mid new : List ConfEntry) (i : ℕ) (r : ConfEntry) → AreChanged f old mid i → slice_get mid i ≡ Some r → new ≡ slice_set mid i (f i r) → AreChanged f old new (i + 1)
change_more f old mid new i r k at set = record {
  size = ap length set ∙ length-set mid i (f i r) ∙ k.size;
  first = λ j r' below at_j. elim (one_or_not j i) as (λ _. slice_get new j ≡ Some (f j r')) [
    | inl e ↦
        let same : r ≡ r' = some_same at (k.rest i (omega arith) ∙ ap (slice_get old) (sym e) ∙ at_j) in
        ap (slice_get new) e ∙ ap (λ l. slice_get l i) set ∙ slice_get-set_same mid i (f i r) r at ∙ ap (λ r. Some (f i r)) same ∙ ap (λ i. Some (f i r')) (sym e)
    | inr ne ↦ ap (λ l. slice_get l j) set ∙ slice_get-set_other mid i j (f i r) ne ∙ k.first j r' (omega (arith, below, ne)) at_j
  ];
  rest = λ j above. ap (λ l. slice_get l j) set ∙ slice_get-set_other mid i j (f i r) (λ e. absurd (omega (arith, above, e))) ∙ k.rest j (omega (arith, above));
}

pub all_changed : (f : ℕ → ConfEntry → ConfEntry) (old new : List ConfEntry) (n : ℕ) → AreChanged f old new n → length old ≤ n → (j : ℕ) (r : ConfEntry) → slice_get old j ≡ Some r → slice_get new j ≡ Some (f j r)
all_changed f old new n k all j r at = k.first j r (let b = slice_get_within old j r at in omega (arith, b, all)) at

pub handle_of_is : (handles : List (Option (List ℕ))) (i : ℕ) (d : Option (List ℕ)) → i < length handles → handle_of handles i ≡ get_or handles i d
handle_of_is handles i d below = ap (option_and_then (λ o. o)) (slice_get-get_or handles i d below)

-- a row with the handle of its place
abbrev pub rebound : List (Option (List ℕ)) → ℕ → ConfEntry → ConfEntry
rebound handles j r = record r { handle = handle_of handles j }

-- rows that were null share no handle with the next
pub unshared : (handles : List (Option (List ℕ))) (old mid : List ConfEntry) (i : ℕ) (o : Option (List ℕ)) →
    ((j : ℕ) (r : ConfEntry) → slice_get old j ≡ Some r → r.handle ≡ None) → AreApart handles → AreChanged (rebound handles) old mid i →
    handle_of handles i ≡ o → IsUnshared mid i o
unshared handles old mid i o null apart k is j h has at =
    let r = and_then_some (λ (r : ConfEntry). r.handle) (slice_get mid j) h at in
    let q = slice_get-along mid old j r.0 k.size r.1 in
    elim (cases_lt j i) as (λ _. j ≡ i) [
      | inl below ↦
          let bound : handle_of handles j ≡ Some h = ap (λ (r : ConfEntry). r.handle) (some_same (k.first j q.0 below q.1) r.1) ∙ r.2 in
          apart j i h bound (is ∙ has)
      | inr above ↦
          let same : r.0 ≡ q.0 = some_same r.1 (k.rest j above ∙ q.1) in
          absurd (some_none r.2 (ap (λ (r : ConfEntry). r.handle) same ∙ null j q.0 q.1))
    ]

-- cleared rows are null
pub cleared_null : (old new : List ConfEntry) → length new ≡ length old → ((i : ℕ) (r : ConfEntry) → slice_get old i ≡ Some r → slice_get new i ≡ Some (emptied r)) → (i : ℕ) (r : ConfEntry) → slice_get new i ≡ Some r → r.handle ≡ None
cleared_null old new size rows i r at =
    let o = slice_get-along new old i r size at in
    ap (λ (r : ConfEntry). r.handle) (some_same at (rows i o.0 o.1))
