-- Rows that are set, and a map that goes with them.
use Rattle.std.proofs.Common.{◌≡◌, ℕ, ◌<◌, length, Some, slice_get, slice_set, get_or, sym, ap, ◌∙◌, subst}
use Rattle.std.proofs.lemmas.Option.{slice_get-get_or}
use Rattle.std.proofs.lemmas.List.{length-set}
use Rattle.nfs2_types.specs.declared.Time.{Time}
use Rattle.server_trait.specs.declared.bench.ConfEntry.{ConfEntry}
use Rattle.server_trait.specs.declared.bench.ConfTable.{ConfTable}
use Rattle.conf_map.specs.Stands.{handle_at}
use Rattle.conf_map.specs.Tables.{touched, IsInStep, IsUnshared}
use Rattle.conf_map.proofs.InStep.{touched_handles}
use Rattle.node_changes.specs.News.{AddsRow}

module _ (old mid : ConfTable) (d i : ℕ) (row : ConfEntry) (t : Time) (below : d < length old.rows.items)
    (rows : (r : ConfEntry) → slice_get old.rows.items d ≡ Some r →
    mid.rows.items ≡ slice_set old.rows.items d (touched t r)) where
  abbrev r : ConfEntry
  r = get_or old.rows.items d row

  at : slice_get old.rows.items d ≡ Some r
  at = slice_get-get_or old.rows.items d row below

  pub same_length : length mid.rows.items ≡ length old.rows.items
  same_length = ap length (rows r at) ∙ length-set old.rows.items d (touched t r)

  same_handles : (k : ℕ) → handle_at mid.rows.items k ≡ handle_at old.rows.items k
  same_handles k = ap (λ l. handle_at l k) (rows r at) ∙ touched_handles old.rows.items d r t at k

  pub still_below : i < length old.rows.items → i < length mid.rows.items
  still_below below = subst (λ n. i < n) (sym same_length) below

  pub still_unshared : IsUnshared old.rows.items i row.handle → IsUnshared mid.rows.items i row.handle
  still_unshared unshared k h is at = unshared k h is (sym (same_handles k) ∙ at)

  pub row_added : (new : ConfTable) → (IsInStep old → IsInStep mid) → new.rows.items ≡ slice_set mid.rows.items i row →
      (IsInStep mid → IsInStep new) → AddsRow old new d i row t
  row_added new first set second = record {
    rows = λ r at. set ∙ ap (λ l. slice_set l i row) (rows r at);
    in_step = λ step. second (first step);
  }

-- the same rows, counted
pub adds_counted : {old mid new : ConfTable} {d i n : ℕ} {row : ConfEntry} {t : Time} → new ≡ record mid { used = n } →
    AddsRow old mid d i row t → AddsRow old new d i row t
adds_counted {old} {mid} {new} {d} {i} {n} {row} {t} is k =
    subst (λ x. AddsRow old x d i row t) (sym is) (record { rows = k.rows; in_step = k.in_step })
