use Rattle.std.proofs.Common.{refl, ◌≡◌, ℕ, ◌<◌, ◌≤◌, length, sym, ◌∙◌, ap, cond, nat_le, None, ⊎_elim, arith}
use Rattle.std.proofs.lemmas.Bool.{cases_eq, cases_lt}
use Rattle.std.proofs.lemmas.List.{length-map, length-set}
use Rattle.std.proofs.lemmas.Option.{slice_get_read}
use Rattle.reply_vote.specs.Ballots.{ballot, word_at, ballots}
use Rattle.reply_vote.proofs.BallotLists.{now_elsewhere, drop_one, no_word_past, none_both}
use Rattle.reply_vote.proofs.votes.Votes.drop_to.Goals as goal

pub loop-voter-preserved : goal.loop-voter-preserved
loop-voter-preserved c =
    let xs = c.loop-voter.self.voters.items in
    let r = c.loop-voter.voter in
    let s = c.drop_to.new.self in
    let old = c.index_mut.result.now in
    let inv = c.loop-voter.invariant in
    let within : r < length xs = omega (arith, inv.many, c.loop-voter-test.true, c.len-voter-end.ensures, c.args.self.now.voters.ok.0) in
    let was = slice_get_read xs (length xs) r old refl within c.index_mut.ensures.value in
    record {
      many = length-set xs r s ∙ inv.many;
      threshold = inv.threshold;
      before = λ k q low. ⊎_elim
          (λ e. drop_one xs r c.args.place s old within was c.drop_to.ensures k q e
          ∙ ap (λ o. cond (nat_le q c.args.place) None o) (inv.after k q (omega (arith, e))))
          (λ ne. now_elsewhere xs r s within k q ne ∙ inv.before k q (omega (arith, ne, low)))
          (cases_eq k r);
      after = λ k q high. now_elsewhere xs r s within k q (λ e. omega (arith, e, high)) ∙ inv.after k q (omega (arith, high));
    }

pub returns-clause-drops : goal.returns-clause-drops
returns-clause-drops c =
    let xs = c.loop-voter.self.voters.items in
    let inv = c.loop-voter.invariant in
    record {
      size = length-map xs ballot ∙ inv.many ∙ sym (length-map c.args.self.now.voters.items ballot);
      words = λ k q. ⊎_elim
          (λ low. inv.before k q low)
          (λ high. inv.after k q high ∙ past k q (omega (arith, high, c.loop-voter-test.false, c.len-voter-end.ensures, c.args.self.now.voters.ok.0)))
          (cases_lt k c.loop-voter.voter);
    }
  where
    -- a voter past the end has no word
    past : (k q : ℕ) → length c.args.self.now.voters.items ≤ k →
        word_at (ballots c.args.self.now) k q ≡ cond (nat_le q c.args.place) None (word_at (ballots c.args.self.now) k q)
    past k q high = none_both (nat_le q c.args.place) _ (no_word_past c.args.self.now.voters.items k q high)
