-- Climbs from row to row are climbs from directory to directory.
use Rattle.std.proofs.Common.{◌≡◌, ◌≢◌, ℕ, zero, suc, ◌+◌, ◌-◌, ◌<◌, arith, true, false, List, length, Option, refl, sym, ap, ◌∙◌}
use Rattle.std.specs.Prelude.{◌==◌, ◌||◌, unwrap_or}
use Rattle.std.specs.Option.{option_map}
use Rattle.server_trait.specs.Tree.{Tree}
use Rattle.server_trait.proofs.TreeLaws.{slice_get-along}
use Rattle.server_trait.specs.declared.bench.ConfEntry.{ConfEntry}
use Rattle.server_trait.specs.declared.bench.ConfTable.{ConfTable}
use Rattle.abs_model.specs.declared.entry.Entry.{Entry}
use Rattle.abs_model.specs.Objects.{is_dir}
use Rattle.abs_model.specs.Array.{entry_at, parent, climbs_to}
use Rattle.abs_model.proofs.Facts.{dir_is}
use Rattle.abs_model.proofs.Parents.{parent_is_dir}
use Rattle.conf_map.specs.Stands.{StandValid}
use Rattle.conf_map.proofs.ArrayFacts.{eq_not, live_within, within_at, parent_is}
use Rattle.wrap_names.specs.RowParents.{parent_in, climbs_in}

-- ONE STEP

climbs_on : (rows : List ConfEntry) (i k here : ℕ) → here ≢ i →
    climbs_in rows i (suc k) here ≡ climbs_in rows i k (parent_in rows here)
climbs_on rows i k here ne = ap (λ b. b || climbs_in rows i k (parent_in rows here)) (eq_not here i ne)

-- one step of several that are left
pub climbs_step : (rows : List ConfEntry) (i n k here : ℕ) → k < n → here ≢ i →
    climbs_in rows i (n - (k + 1)) (parent_in rows here) ≡ climbs_in rows i (n - k) here
climbs_step rows i n k here below ne =
    let more : n - k ≡ suc (n - (k + 1)) = omega arith in
    sym (ap (λ m. climbs_in rows i m here) more ∙ climbs_on rows i (n - (k + 1)) here ne)

-- from a row that is its own parent one comes to no other
pub climbs_stay : (rows : List ConfEntry) (i k here : ℕ) → parent_in rows here ≡ here → here ≢ i →
    climbs_in rows i k here ≡ false
climbs_stay rows i zero here stays ne = eq_not here i ne
climbs_stay rows i (suc k) here stays ne =
    climbs_on rows i k here ne ∙ ap (climbs_in rows i k) stays ∙ climbs_stay rows i k here stays ne

-- ALL STEPS

module _ (s : Option Tree) (table : ConfTable) (A : List Entry) (k : StandValid s table A) where
  -- a row keeps its directory's parent
  parent_agrees : (i : ℕ) → is_dir (entry_at A i) ≡ true → parent_in table.rows.items i ≡ parent A i
  parent_agrees i dir =
      let at = within_at A i (live_within A i (dir_is (entry_at A i) dir).null) in
      let r = slice_get-along A table.rows.items i (entry_at A i) (sym k.stands.size) at in
      ap (λ o. unwrap_or (option_map (λ (r : ConfEntry). r.parent) o) 0) r.1
      ∙ parent_is k.limits A k.valid r.0.parent i dir ((k.stands.each i r.0 (entry_at A i) r.1 at).parent dir)

  climbs_agree : (n i here : ℕ) → is_dir (entry_at A here) ≡ true →
      climbs_in table.rows.items i n here ≡ climbs_to A i n here
  climbs_agree zero i here dir = refl
  climbs_agree (suc n) i here dir =
      ap (λ p. here == i || climbs_in table.rows.items i n p) (parent_agrees here dir)
      ∙ ap (λ b. here == i || b) (climbs_agree n i (parent A here) (parent_is_dir k.limits A here k.valid dir))

  -- in as many steps as there are rows
  pub below_agrees : (i here : ℕ) → is_dir (entry_at A here) ≡ true →
      climbs_in table.rows.items i (length table.rows.items) here ≡ climbs_to A i (length A) here
  below_agrees i here dir = climbs_agree (length table.rows.items) i here dir
      ∙ ap (λ n. climbs_to A i n here) k.stands.size
