use Rattle.std.proofs.Common.{◌≡◌, ◌<◌, ◌≤◌, ℕ, None, cond, nat_le, length}
use Rattle.reply_vote.specs.Ballots.{ballots, word_at}
use Rattle.reply_vote.proofs.votes.Votes.drop_to.Given as goal

abbrev pub invariant-loop-voter : goal.invariant-loop-voter
invariant-loop-voter l = record {
  many : length l.self.voters.items ≡ length l.initial.self.voters.items;
  threshold : l.self.threshold ≡ l.initial.self.threshold;
  before : (k q : ℕ) → k < l.voter →
      word_at (ballots l.self) k q ≡ cond (nat_le q l.place) None (word_at (ballots l.initial.self) k q);
  after : (k q : ℕ) → l.voter ≤ k → word_at (ballots l.self) k q ≡ word_at (ballots l.initial.self) k q;
}
