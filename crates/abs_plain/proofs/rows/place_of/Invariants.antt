use Rattle.std.proofs.Common.{◌≡◌, ℕ, ◌<◌, false, get_or}
use Rattle.abs_model.specs.declared.NameRow.{NameRow}
use Rattle.abs_model.specs.Objects.{name_lt}
use Rattle.abs_plain.proofs.rows.place_of.Given as goal

abbrev pub invariant-loop-i : goal.invariant-loop-i
invariant-loop-i l = (k : ℕ) (d : NameRow) → k < l.i → name_lt l.name (get_or l.rows k d).name ≡ false
