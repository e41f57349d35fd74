use Rattle.std.proofs.Common.{◌≡◌, ◌<◌, ◌≤◌, ℕ, false, length}
use Rattle.rebuilding.specs.Name.{bit_at}
use Rattle.rebuilding.specs.Rebuild.{is_object}
use Rattle.rebuilding.proofs.building.mark_objects.Given as goal

-- the first indexes are marked
abbrev pub invariant-loop-i : goal.invariant-loop-i
invariant-loop-i l = record {
  size : length l.marks ≡ length l.entries;
  bits : (j : ℕ) → j < l.i → bit_at l.marks j ≡ is_object l.entries j;
  rest : (j : ℕ) → l.i ≤ j → bit_at l.marks j ≡ false;
}
