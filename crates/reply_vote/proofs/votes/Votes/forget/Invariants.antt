use Rattle.std.proofs.Common.{◌≡◌, ◌≢◌, ◌<◌, ℕ, None, length}
use Rattle.reply_vote.specs.Ballots.{ballots, word_at}
use Rattle.reply_vote.proofs.votes.Votes.forget.Given as goal

abbrev pub invariant-loop-voter : goal.invariant-loop-voter
invariant-loop-voter l = record {
  many : length l.self.voters.items ≡ length l.initial.self.voters.items;
  threshold : l.self.threshold ≡ l.initial.self.threshold;
  before : (k : ℕ) → k < l.voter → word_at (ballots l.self) k l.place ≡ None;
  others : (k q : ℕ) → q ≢ l.place → word_at (ballots l.self) k q ≡ word_at (ballots l.initial.self) k q;
}
