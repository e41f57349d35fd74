use Rattle.std.proofs.Common.{◌≡◌, ◌<◌, ◌≤◌, ℕ, length, slice_get}
use Rattle.std.specs.Prelude.{option_map}
use Rattle.cluster.specs.Casting.{seat_sees}
use Rattle.cluster.proofs.cluster.votes.tell_all.Given as goal

-- those before r have been told, and the others are as they were
abbrev pub invariant-loop-r : goal.invariant-loop-r
invariant-loop-r l = record {
  size : length l.seats.items ≡ length l.fn.seats.items;
  told : (k : ℕ) → k < l.r → slice_get l.seats.items k
      ≡ option_map (seat_sees l.place) (slice_get l.fn.seats.items k);
  rest : (k : ℕ) → l.r ≤ k → slice_get l.seats.items k ≡ slice_get l.fn.seats.items k;
}
