-- A row under another parent, which is written.
use Rattle.std.proofs.Common.{◌≡◌, ℕ, length, Some, slice_get, slice_set, ap, ◌∙◌}
use Rattle.nfs2_types.specs.declared.Time.{Time}
use Rattle.server_trait.specs.declared.bench.ConfEntry.{ConfEntry}
use Rattle.server_trait.specs.declared.bench.ConfTable.{ConfTable}
use Rattle.conf_map.specs.Tables.{touched}
use Rattle.conf_map.proofs.InStep.{slice_get-set_other}
use Rattle.node_changes.specs.NameRows.{IsPutUnder}
use Rattle.node_changes.specs.NameRows.{under}

module _ (old mid new : ConfTable) (p i : ℕ) (t : Time)
    (row : (r : ConfEntry) → slice_get old.rows.items i ≡ Some r →
    mid.rows.items ≡ slice_set old.rows.items i (under p r))
    (size : length mid.rows.items ≡ length old.rows.items) (by_handle : mid.by_handle ≡ old.by_handle)
    (touch : (r : ConfEntry) → slice_get mid.rows.items p ≡ Some r →
    new.rows.items ≡ slice_set mid.rows.items p (touched t r))
    (size' : length new.rows.items ≡ length mid.rows.items) (by_handle' : new.by_handle ≡ mid.by_handle) where
  pub put_under_is : IsPutUnder old new p i t
  put_under_is = record {
    rows = λ r s at_i at_p ne.
        touch s (ap (λ l. slice_get l p) (row r at_i) ∙ slice_get-set_other old.rows.items i p (under p r) ne ∙ at_p)
        ∙ ap (λ l. slice_set l p (touched t s)) (row r at_i);
    size = size' ∙ size;
    by_handle = by_handle' ∙ by_handle;
  }
