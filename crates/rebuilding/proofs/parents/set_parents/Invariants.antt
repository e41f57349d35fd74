use Rattle.std.proofs.Common.{◌≡◌, ◌<◌, ℕ, Some, true, slice_get}
use Rattle.server_trait.specs.declared.bench.ConfEntry.{ConfEntry}
use Rattle.abs_model.specs.Objects.{is_dir}
use Rattle.abs_model.specs.Array.{entry_at, parent}
use Rattle.staging.specs.Parents.{OnlyParents}
use Rattle.rebuilding.proofs.parents.set_parents.Given as goal

-- the first directories have their parents
abbrev pub invariant-loop-i : goal.invariant-loop-i
invariant-loop-i l = record {
  only : OnlyParents l.fn.table l.table;
  parents : (j : ℕ) (r : ConfEntry) → j < l.i → slice_get l.table.rows.items j ≡ Some r → is_dir (entry_at l.entries j) ≡ true → r.parent ≡ parent l.entries j;
}
