use Rattle.std.proofs.Common.{◌≡◌, ◌-◌, length}
use Rattle.wrap_names.specs.RowParents.{climbs_in}
use Rattle.wrap_names.proofs.below.climbs.Given as goal

-- with the steps that are left one comes from here where one came from the first
abbrev pub invariant-loop-step : goal.invariant-loop-step
invariant-loop-step l =
    climbs_in l.table.rows.items l.moved (length l.table.rows.items - l._step) l.here
    ≡ climbs_in l.table.rows.items l.moved (length l.table.rows.items) l.dir
