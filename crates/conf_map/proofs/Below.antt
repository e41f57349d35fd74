-- Where the array is valid each row's node lies at or below the export directory.
use Rattle.std.proofs.Common.{◌≡◌, ℕ, zero, suc, true, List, Option, Some, ap, ◌∙◌, subst}
use Rattle.nfs2_types.specs.declared.Limits.{Limits}
use Rattle.server_trait.specs.Tree.{Tree, target}
use Rattle.server_trait.specs.Step.{LeadsIn, IsAtOrBelow}
use Rattle.server_trait.proofs.TreeLaws.{some_same}
use Rattle.server_trait.specs.declared.bench.ConfTable.{ConfTable}
use Rattle.abs_model.specs.declared.entry.Entry.{Entry}
use Rattle.abs_model.specs.Objects.{names_of}
use Rattle.abs_model.specs.Array.{entry_at, has_row_to}
use Rattle.abs_model.specs.Valid.{Walk, Valid}
use Rattle.conf_map.specs.Stands.{handle_at, Stands}
use Rattle.conf_map.proofs.Frames.{entry_at-some}
use Rattle.conf_map.proofs.ArrayFacts.{any_at, dir_of_row, fits_at}
use Rattle.conf_map.proofs.LiveRows.{at_handle, is_live}
use Rattle.conf_map.proofs.RowFacts.{row_of-at}
use Rattle.conf_map.proofs.Targets.{target_some}

module _ (limits : Limits) (s : Option Tree) (table : ConfTable) (A : List Entry) (st : Stands s table A)
    (v : Valid limits A) where
  -- a name of the array is one of the tree
  step : (i j : ℕ) (h : List ℕ) → handle_at table.rows.items i ≡ Some h → has_row_to j (entry_at A i) ≡ true →
      (name : List ℕ) × (x : List ℕ) × (target st.tree h name ≡ Some x) × (handle_at table.rows.items j ≡ Some x)
  step i j h is has =
      let k = at_handle s table A st i h is in
      let r = any_at (names_of k.2) j (subst (λ e. has_row_to j e ≡ true) (entry_at-some A i k.2 k.3.is_entry) has) in
      let found = row_of-at (names_of k.2) r.0 r.1 (fits_at limits A v i k.2 k.3.is_entry).rising r.2 in
      let x = target_some s table A st i h k.0 k.1 k.2 k.3 (dir_of_row k.2 r.1.name r.1 found) r.1.name r.1 found in
      let leads : handle_at table.rows.items j ≡ Some x.0 = subst
      (λ j. handle_at table.rows.items j ≡ Some x.0) r.3 x.2 in
      (r.1.name, x.0, x.1, leads)

  walked : (k i j : ℕ) (h q : List ℕ) → Walk A k i j → handle_at table.rows.items i ≡ Some h →
      handle_at table.rows.items j ≡ Some q → LeadsIn st.tree k h q
  walked zero i j h q w at_i at_j = some_same at_i (ap (handle_at table.rows.items) w ∙ at_j)
  walked (suc k) i j h q w at_i at_j =
      let n = step i w.0 h at_i w.1 in
      (n.0, n.1, n.2, walked k w.0 j n.1 q w.2 n.3 at_j)

  -- Each row's node lies at or below the export directory.
  pub below_export : (i : ℕ) (q : List ℕ) → handle_at table.rows.items i ≡ Some q →
      IsAtOrBelow st.tree st.placed.export q
  below_export i q is =
      let k = at_handle s table A st i q is in
      let w = v.reached i (is_live s table A st i q k.0 k.1 k.2 k.3) in
      (w.0, walked w.0 0 i st.placed.export q w.2 st.placed.is_export is)
