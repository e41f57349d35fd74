use Rattle.std.proofs.Common.{◌≡◌, ◌-◌, ◌+◌, ℕ, None, slice_index_or, vec_len}
use Rattle.path_store.proofs.dirs.reach.Given as goal

abbrev pub invariant-loop-rows : goal.invariant-loop-rows
invariant-loop-rows l =
    (k : ℕ) → slice_index_or l.rows.items k None ≡ slice_index_or l.initial.rows.items k None

abbrev pub decreases-loop-rows : goal.decreases-loop-rows
decreases-loop-rows l = (l.place + 1) - vec_len l.rows
