-- Rows of a directory and of an object that are set one after the other.
use Rattle.std.proofs.Common.{◌≡◌, ◌≢◌, ℕ, Some, slice_get, slice_set, sym, ap, ◌∙◌, subst}
use Rattle.nfs2_types.specs.declared.Time.{Time}
use Rattle.server_trait.specs.declared.bench.ConfEntry.{ConfEntry}
use Rattle.server_trait.specs.declared.bench.ConfTable.{ConfTable}
use Rattle.conf_map.specs.Tables.{IsInStep, emptied, touched}
use Rattle.conf_map.proofs.InStep.{slice_get-set_other}
use Rattle.node_changes.specs.NameRows.{changed_row, ChangesRow, ClearsRow}

module _ (old mid new : ConfTable) (d i : ℕ) (t : Time) (apart : d ≢ i)
    (rows : (r : ConfEntry) → slice_get old.rows.items d ≡ Some r →
    mid.rows.items ≡ slice_set old.rows.items d (touched t r)) where
  -- the object's row is as it was
  still_row : (r o : ConfEntry) → slice_get old.rows.items d ≡ Some r → slice_get old.rows.items i ≡ Some o →
      slice_get mid.rows.items i ≡ Some o
  still_row r o at_d at_i = ap (λ l. slice_get l i) (rows r at_d)
      ∙ slice_get-set_other old.rows.items d i (touched t r) (λ e. apart (sym e)) ∙ at_i

  set_both : (f : ConfEntry → ConfEntry) → ((r : ConfEntry) → slice_get mid.rows.items i ≡ Some r →
      new.rows.items ≡ slice_set mid.rows.items i (f r)) →
      (r o : ConfEntry) → slice_get old.rows.items d ≡ Some r → slice_get old.rows.items i ≡ Some o →
      new.rows.items ≡ slice_set (slice_set old.rows.items d (touched t r)) i (f o)
  set_both f next r o at_d at_i = next o (still_row r o at_d at_i)
      ∙ ap (λ l. slice_set l i (f o)) (rows r at_d)

  pub row_changes : ((r : ConfEntry) → slice_get mid.rows.items i ≡ Some r →
      new.rows.items ≡ slice_set mid.rows.items i (changed_row t r)) →
      mid.by_handle ≡ old.by_handle → new.by_handle ≡ mid.by_handle → ChangesRow old new d i t
  row_changes next first second = record { rows = set_both (changed_row t) next; by_handle = second ∙ first }

  pub row_clears : ((r : ConfEntry) → slice_get mid.rows.items i ≡ Some r →
      new.rows.items ≡ slice_set mid.rows.items i (emptied r)) →
      (IsInStep old → IsInStep mid) → (IsInStep mid → IsInStep new) → ClearsRow old new d i t
  row_clears next first second = record { rows = set_both emptied next; in_step = λ step. second (first step) }

-- the same rows, counted
pub changes_counted : {old mid new : ConfTable} {d i n : ℕ} {t : Time} → new ≡ record mid { used = n } →
    ChangesRow old mid d i t → ChangesRow old new d i t
changes_counted {old} {mid} {new} {d} {i} {n} {t} is k =
    subst (λ x. ChangesRow old x d i t) (sym is) (record { rows = k.rows; by_handle = k.by_handle })

pub clears_counted : {old mid new : ConfTable} {d i n : ℕ} {t : Time} → new ≡ record mid { used = n } →
    ClearsRow old mid d i t → ClearsRow old new d i t
clears_counted {old} {mid} {new} {d} {i} {n} {t} is k =
    subst (λ x. ClearsRow old x d i t) (sym is) (record { rows = k.rows; in_step = k.in_step })
