use Rattle.std.proofs.Common.{◌≡◌, drop}
use Rattle.std.specs.List.{position_from}
use Rattle.basefs.specs.Log.{is_small as is_small_for}
use Rattle.basefs.proofs.bench.first_small.Given as goal

-- the first that is too small is the first of those from here on
abbrev pub invariant-loop-r : goal.invariant-loop-r
invariant-loop-r g l =
    position_from (λ s. is_small_for l.header ((goal.FileServer-dyn g (s.vtable, s.value)).state s.value).limits) 0 l.servers
    ≡ position_from (λ s. is_small_for l.header ((goal.FileServer-dyn g (s.vtable, s.value)).state s.value).limits) l.r (drop l.r l.servers)
