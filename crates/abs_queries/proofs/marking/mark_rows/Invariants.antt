use Rattle.std.proofs.Common.{◌≡◌, ℕ, ◌<◌, ◌||◌, false, get_or, length, take}
use Rattle.std.specs.Prelude.{◌==◌}
use Rattle.std.specs.List.{list_any}
use Rattle.abs_queries.proofs.marking.mark_rows.Given as goal

abbrev pub invariant-loop-r : goal.invariant-loop-r
invariant-loop-r l = record {
  marks : (i : ℕ) → i < length l.fn.marked → get_or l.marked i false ≡ (get_or l.fn.marked i false || list_any (λ r. r.index == i) (take l.r-index l.rows));
  same : l.some ≡ false → l.marked ≡ l.fn.marked;
}
