use Rattle.std.proofs.Common.{◌<◌, length, refl, sym, ◌∙◌, ⊎_elim, arith}
use Rattle.std.proofs.lemmas.Bool.{cases_eq, cases_lt}
use Rattle.std.proofs.lemmas.List.{length-map, length-set}
use Rattle.std.proofs.lemmas.Option.{slice_get_read}
use Rattle.reply_vote.specs.Ballots.{ballot}
use Rattle.reply_vote.proofs.BallotLists.{now_elsewhere, forgot_here, forgot_others, no_word_past}
use Rattle.reply_vote.proofs.votes.Votes.forget.Goals as goal

pub loop-voter-preserved : goal.loop-voter-preserved
loop-voter-preserved c =
    let xs = c.loop-voter.self.voters.items in
    let r = c.loop-voter.voter in
    let p = c.args.place in
    let s = c.forget.new.self in
    let old = c.index_mut.result.now in
    let inv = c.loop-voter.invariant in
    let within : r < length xs = omega (arith, inv.many, c.loop-voter-test.true, c.len-voter-end.ensures, c.args.self.now.voters.ok.0) in
    let was = slice_get_read xs (length xs) r old refl within c.index_mut.ensures.value in
    let gone = c.forget.ensures.here in
    let kept = c.forget.ensures.others in
    record {
      many = length-set xs r s ∙ inv.many;
      threshold = inv.threshold;
      before = λ k low. ⊎_elim
          (λ e. forgot_here xs r p s old within was gone kept k e)
          (λ ne. now_elsewhere xs r s within k p ne ∙ inv.before k (omega (arith, ne, low)))
          (cases_eq k r);
      others = λ k q ne. forgot_others xs r p s old within was gone kept k q ne ∙ inv.others k q ne;
    }

pub returns-clause-forgets : goal.returns-clause-forgets
returns-clause-forgets c =
    let xs = c.loop-voter.self.voters.items in
    let inv = c.loop-voter.invariant in
    record {
      size = length-map xs ballot ∙ inv.many ∙ sym (length-map c.args.self.now.voters.items ballot);
      here = λ k. ⊎_elim
          (λ low. inv.before k low)
          (λ high. no_word_past xs k c.args.place
          (omega (arith, high, inv.many, c.loop-voter-test.false, c.len-voter-end.ensures, c.args.self.now.voters.ok.0)))
          (cases_lt k c.loop-voter.voter);
      places = inv.others;
    }
