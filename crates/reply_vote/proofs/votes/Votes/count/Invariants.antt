use Rattle.std.proofs.Common.{◌≡◌, ◌≤◌, take}
use Rattle.std.specs.List.{count_by}
use Rattle.cluster_model.specs.State.{is_word}
use Rattle.reply_vote.specs.Ballots.{ballot}
use Rattle.reply_vote.proofs.votes.Votes.count.Given as goal

abbrev pub invariant-loop-standing : goal.invariant-loop-standing
invariant-loop-standing l = record {
  bounded : l.count ≤ l.standing-index;
  counted : l.count ≡ count_by (λ s. is_word l.word (ballot s l.place)) (take l.standing-index l.self.voters.items);
}
