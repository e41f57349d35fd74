use Rattle.std.proofs.Common.{◌<◌, subst}
use Rattle.std.proofs.lemmas.List.{length-map}
use Rattle.std.proofs.lemmas.Option.{slice_get_read}
use Rattle.reply_vote.specs.Ballots.{ballot}
use Rattle.reply_vote.proofs.BallotLists.{casts_set, same_set}
use Rattle.reply_vote.proofs.votes.Votes.cast.Goals as goal

pub returns-in-Ok-clause-casts : goal.returns-in-Ok-clause-casts
returns-in-Ok-clause-casts c =
    let xs = c.args.self.now.voters.items in
    let within = subst (λ n. c.args.voter < n) (length-map xs ballot) c.requires in
    casts_set xs c.args.voter c.put.new.self within c.index_mut.result.now
    (slice_get_read xs _ c.args.voter c.index_mut.result.now (length-map xs ballot) c.requires c.index_mut.ensures.value)
    c.args.place c.args.word c.in-Ok.ensures.here c.in-Ok.ensures.others

pub returns-in-Err-clause-same : goal.returns-in-Err-clause-same
returns-in-Err-clause-same c =
    let xs = c.args.self.now.voters.items in
    let within = subst (λ n. c.args.voter < n) (length-map xs ballot) c.requires in
    same_set xs c.args.voter c.put.new.self within c.index_mut.result.now
    (slice_get_read xs _ c.args.voter c.index_mut.result.now (length-map xs ballot) c.requires c.index_mut.ensures.value)
    c.in-Err.ensures.same
