use Rattle.std.proofs.Common.{◌≡◌, ℕ, ◌<◌, ◌≤◌, option_map, slice_get, vec_len}
use Rattle.path_server.specs.Rows.{shown_row}
use Rattle.path_server.proofs.rows.show_rows.Given as goal

abbrev pub invariant-loop-k : goal.invariant-loop-k
invariant-loop-k l =
    (vec_len l.rows ≡ vec_len l.initial.rows)
    × ((j : ℕ) → j < l.k → slice_get l.rows.items j ≡ option_map (shown_row l.starts)
    (slice_get l.initial.rows.items j))
    × ((j : ℕ) → l.k ≤ j → slice_get l.rows.items j ≡ slice_get l.initial.rows.items j)
