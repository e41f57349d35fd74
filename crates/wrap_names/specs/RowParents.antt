-- The parents that rows keep, and climbs from one to the next.
use Rattle.std.specs.Prelude.{ℕ, zero, suc, List, Bool, ◌||◌, ◌==◌, slice_get, unwrap_or}
use Rattle.std.specs.Option.{option_map}
use Rattle.server_trait.specs.declared.bench.ConfEntry.{ConfEntry}

-- the parent in a row; past the last row 0
abbrev pub parent_in : List ConfEntry → ℕ → ℕ
parent_in rows i = unwrap_or (option_map (λ (r : ConfEntry). r.parent) (slice_get rows i)) 0

-- in at most so many steps from parent to parent one comes from here to i
abbrev pub climbs_in : List ConfEntry → ℕ → ℕ → ℕ → Bool
climbs_in rows i zero here = here == i
climbs_in rows i (suc k) here = here == i || climbs_in rows i k (parent_in rows here)
