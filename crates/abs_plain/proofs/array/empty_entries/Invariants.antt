use Rattle.std.proofs.Common.{◌≡◌, ◌∷◌, replicate}
use Rattle.abs_model.specs.Array.{empty_root, null_entry}
use Rattle.abs_plain.proofs.array.empty_entries.Given as goal

abbrev pub invariant-loop-i : goal.invariant-loop-i
invariant-loop-i l = l.entries.items ≡ empty_root ∷ replicate l.i null_entry
