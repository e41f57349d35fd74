-- The names of a valid array.
use Rattle.std.proofs.Common.{◌≡◌, ◌≢◌, inl, inr, ◌<◌, ◌≤◌, ◌+◌, ℕ, zero, suc, List, [], ◌∷◌, Bool, true, false, cond, Some, None, length, slice_get, count_by, refl, sym, ap, ◌∙◌, subst, arith}
use Rattle.std.specs.Prelude.{get_or, not, nat_lt, ◌&&◌, ◌==◌}
use Rattle.std.specs.List.{list_all}
use Rattle.std.proofs.lemmas.Bool.{and_parts, and_from, cases_lt, lt-ltb}
use Rattle.std.proofs.lemmas.List.{get_or_past}
use Rattle.std.proofs.lemmas.List.Sums.{get_or-le-sum_by}
use Rattle.nfs2_types.specs.declared.Limits.{Limits}
use Rattle.server_trait.proofs.TreeLaws.{one_or_not}
use Rattle.abs_model.specs.declared.entry.NameRow.{NameRow}
use Rattle.abs_model.specs.declared.entry.Entry.{Entry}
use Rattle.abs_model.specs.Objects.{is_dir, is_null, names_of}
use Rattle.abs_model.specs.Array.{entry_at, null_entry, has_row_to, links}
use Rattle.abs_model.specs.Valid.{Valid, Walk, is_rising, leads}
use Rattle.abs_model.proofs.Facts.{led_is}
use Rattle.abs_model.proofs.RowLists.{all_weaker, count_from_any}
use Rattle.conf_map.proofs.ArrayFacts.{IsLed, dir_of_row, eq_is, fits_at, led_at, live_within, not_of, within_at}
use Rattle.conf_map.proofs.RowFacts.{row_of-at}
use Rattle.rebuilding.specs.Rebuild.{is_object}

-- what holds of each element holds of all
pub all_from : {X : Type 0} (p : X → Bool) (d : X) (xs : List X) → ((i : ℕ) → i < length xs → p (get_or xs i d) ≡ true) → list_all p xs ≡ true
all_from p d [] each = refl
all_from p d (x ∷ xs) each = and_from (p x) (list_all p xs) (each 0 (omega arith)) (all_from p d xs (λ i low. each (suc i) (omega (arith, low))))

-- what is reached in some steps, and is not where the walk began, has a name
pub walk_named : (A : List Entry) (k here i : ℕ) → Walk A k here i → here ≢ i → (d : ℕ) × (has_row_to i (entry_at A d) ≡ true)
walk_named A zero here i w ne = absurd (ne w)
walk_named A (suc k) here i w ne = elim (one_or_not w.0 i) as (λ _. (d : ℕ) × (has_row_to i (entry_at A d) ≡ true)) [
  | inl e ↦ (here, subst (λ j. has_row_to j (entry_at A here) ≡ true) e w.1)
  | inr other ↦ walk_named A k w.0 i w.2 other
]

has_below : (A : List Entry) (d i : ℕ) → has_row_to i (entry_at A d) ≡ true → d < length A
has_below A d i has = elim (cases_lt d (length A)) as (λ _. d < length A) [
  | inl below ↦ below
  | inr past ↦ absurd (let bad : false ≡ true = sym (ap (has_row_to i) (get_or_past A d null_entry past)) ∙ has in cc)
]

pub links_some : (A : List Entry) (d i : ℕ) → has_row_to i (entry_at A d) ≡ true → 1 ≤ links A i
links_some A d i has =
    let one = count_from_any (λ (r : NameRow). r.index == i) (names_of (entry_at A d)) has in
    let share = get_or-le-sum_by (λ (e : Entry). count_by (λ r. r.index == i) (names_of e)) A d null_entry (has_below A d i has) in
    omega (arith, one, share)

module _ (limits : Limits) (C : List Entry) (v : Valid limits C) where
  pub rising_in : (d : ℕ) → d < length C → is_rising (names_of (entry_at C d)) ≡ true
  rising_in d below = (fits_at limits C v d (entry_at C d) (within_at C d below)).rising

  -- an object other than the first has a name
  pub object_named : (i : ℕ) → is_object C i ≡ true → 1 ≤ links C i
  object_named i is =
      let parts = and_parts (not (i == 0)) (not (is_null (entry_at C i))) is in
      let other : 0 ≢ i = λ e. (let bad : true ≡ false = sym (eq_is i 0 (sym e)) ∙ not_of (i == 0) parts.0 in absurd (cc)) in
      let r = v.reached i (not_of (is_null (entry_at C i)) parts.1) in
      let named = walk_named C r.0 0 i r.2 other in
      links_some C named.0 i named.1

  pub within_row : (i : ℕ) → i < length C → list_all (λ (r : NameRow). nat_lt r.index (length C)) (names_of (entry_at C i)) ≡ true
  within_row i below = all_weaker (leads C) (λ (r : NameRow). nat_lt r.index (length C))
      (λ r l. lt-ltb r.index (length C) (live_within C r.index (led_is C r l).live)) (names_of (entry_at C i)) (v.lead i below)

  pub within_all : list_all (λ (e : Entry). list_all (λ (r : NameRow). nat_lt r.index (length C)) (names_of e)) C ≡ true
  within_all = all_from (λ (e : Entry). list_all (λ (r : NameRow). nat_lt r.index (length C)) (names_of e)) null_entry C within_row

  module _ (d k : ℕ) (row : NameRow) (at : slice_get (names_of (entry_at C d)) k ≡ Some row) where
    pub dir_below : d < length C
    dir_below = elim (cases_lt d (length C)) as (λ _. d < length C) [
      | inl below ↦ below
      | inr past ↦ absurd (let bad : None ≡ Some row = sym (ap (λ (e : Entry). slice_get (names_of e) k) (get_or_past C d null_entry past)) ∙ at in cc)
    ]

    pub row_led : IsLed C row
    row_led = led_at limits C v d (entry_at C d) k row (within_at C d dir_below) at

    pub row_below : row.index < length C
    row_below = live_within C row.index row_led.live

    pub row_dir : is_dir (entry_at C d) ≡ true
    row_dir = dir_of_row (entry_at C d) row.name row (row_of-at (names_of (entry_at C d)) k row (rising_in d dir_below) at)
