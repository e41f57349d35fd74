use Rattle.reply_vote.proofs.BallotLists.{no_words}
use Rattle.reply_vote.proofs.votes.Votes.new.Goals as goal

pub returns-clause-none : goal.returns-clause-none
returns-clause-none c = no_words c.loop.standing.items c.loop.invariant.none
