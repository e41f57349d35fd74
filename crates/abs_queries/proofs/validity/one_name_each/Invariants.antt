use Rattle.std.proofs.Common.{◌≡◌, ◌≢◌, ℕ, ◌<◌, true}
use Rattle.abs_model.specs.Objects.{is_dir}
use Rattle.abs_model.specs.Array.{entry_at, links}
use Rattle.abs_queries.proofs.validity.one_name_each.Given as goal

abbrev pub invariant-loop-i : goal.invariant-loop-i
invariant-loop-i l = (k : ℕ) → k < l.i → is_dir (entry_at l.entries k) ≡ true → k ≢ 0 → links l.entries k ≡ 1
