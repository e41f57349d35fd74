use Rattle.std.proofs.Common.{◌≡◌, ◌<◌, ℕ, Some}
use Rattle.nfs2_types.specs.declared.Word.{Word}
use Rattle.reply_vote.specs.Ballots.{ballots, word_at, votes_for}
use Rattle.reply_vote.proofs.votes.Votes.decided.Given as goal

abbrev pub invariant-loop-voter : goal.invariant-loop-voter
invariant-loop-voter l = (k : ℕ) (v : Word) → k < l.voter → word_at (ballots l.self) k l.place ≡ Some v →
    votes_for (ballots l.self) l.place v < l.self.threshold
