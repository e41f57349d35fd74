use Rattle.std.proofs.Common.{◌+◌, ◌-◌, length}
use Rattle.wrap_read.specs.Rows.{all_entries}
use Rattle.wrap_read.proofs.Pages.{IsGiven}
use Rattle.wrap_read.proofs.page.page.Given as goal

-- the entries given so far
abbrev pub invariant-loop-place : goal.invariant-loop-place
invariant-loop-place l =
    IsGiven (all_entries l.table l.d l.parent l.names) l.cookie l.count l.given.items l.left l.place

abbrev pub decreases-loop-place : goal.decreases-loop-place
decreases-loop-place l = (2 + length l.names) - l.place
