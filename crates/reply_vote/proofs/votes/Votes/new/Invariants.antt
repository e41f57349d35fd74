use Rattle.std.proofs.Common.{◌≡◌, ℕ, length, None}
use Rattle.std.specs.List.{All}
use Rattle.reply_vote.specs.Ballots.{ballot}
use Rattle.reply_vote.proofs.votes.Votes.new.Given as goal

abbrev pub invariant-loop : goal.invariant-loop
invariant-loop l = record {
  many : length l.standing.items ≡ l.counter;
  none : All (λ s. (p : ℕ) → ballot s p ≡ None) l.standing.items;
}
