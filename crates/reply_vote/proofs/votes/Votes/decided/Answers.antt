use Rattle.std.proofs.Common.{refl, ◌≡◌, ◌<◌, length, map, sym, ◌∙◌, ap, subst, ⊎_elim, Some, None, arith}
use Rattle.std.specs.Option.{option_copied}
use Rattle.std.proofs.lemmas.Bool.{cases_eq}
use Rattle.std.proofs.lemmas.List.{length-map}
use Rattle.std.proofs.lemmas.Option.{slice_get_read}
use Rattle.reply_vote.specs.Ballots.{ballot, ballots, word_at, votes_for}
use Rattle.reply_vote.proofs.BallotLists.{was_at, none_past, some_same}
use Rattle.reply_vote.proofs.votes.Votes.decided.Goals as goal
use Rattle.reply_vote.proofs.votes.Votes.decided.Goals.{in-Some+else-count-self, in-None}

pub loop-voter-preserved : goal.loop-voter-preserved
loop-voter-preserved c = λ k v low e.
    let xs = c.args.self.now.voters.items in
    let r = c.loop-voter.voter in
    let s = c.index.result.now in
    let within : r < length xs = omega (arith, c.loop-voter-test.true, c.len-voter-end.ensures, c.args.self.now.voters.ok.0) in
    let was = slice_get_read xs (length xs) r s refl within c.index.ensures in
    let here = was_at xs r s was c.args.place in
    ⊎_elim
    (λ same.
    let his : ballot s c.args.place ≡ Some v = sym here ∙ sym (ap (λ j. word_at (map ballot xs) j c.args.place) same) ∙ e in
    elim c.match-get.branch [
      | in-Some+else-count-self w ↦
          let is = sym c.get.ensures.value ∙ ap option_copied w.in-Some.is in
          subst (λ u. votes_for (ballots c.args.self.now) c.args.place u < c.args.self.now.threshold) (some_same (sym is ∙ his))
          (omega (arith, w.count.ensures, w.if-count-self.false))
      | in-None w ↦ absurd (let none : ballot s c.args.place ≡ None = sym c.get.ensures.value ∙ ap option_copied w.in-None.is in cc (none, his))
    ])
    (λ other. c.loop-voter.invariant k v (omega (arith, low, other)) e)
    (cases_eq k r)

pub returns : goal.returns
returns c = λ k v e.
    let xs = c.args.self.now.voters.items in
    let past : k < length (map ballot xs) = none_past (map ballot xs) k c.args.place v e in
    c.loop-voter.invariant k v (omega (arith, past, length-map xs ballot, c.loop-voter-test.false, c.len-voter-end.ensures, c.args.self.now.voters.ok.0)) e
