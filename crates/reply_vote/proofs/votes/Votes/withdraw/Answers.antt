use Rattle.std.proofs.Common.{◌<◌, subst}
use Rattle.std.proofs.lemmas.List.{length-map}
use Rattle.reply_vote.specs.Ballots.{ballot}
use Rattle.reply_vote.proofs.BallotLists.{withdraws_set}
use Rattle.reply_vote.proofs.votes.Votes.withdraw.Goals as goal

pub returns-clause-withdraws : goal.returns-clause-withdraws
returns-clause-withdraws c =
    let xs = c.args.self.now.voters.items in
    withdraws_set xs c.args.voter _ (subst (λ n. c.args.voter < n) (length-map xs ballot) c.requires) c.new.ensures
