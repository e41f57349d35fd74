use Rattle.std.proofs.Common.{◌≡◌, refl, ap, ◌∙◌, subst, arith}
use Rattle.nfs2_types.specs.declared.Word.TheVariants.{Reply}
use Rattle.reply_vote.specs.Ballots.{ballots, votes_for, Casts}
use Rattle.cluster.specs.Casting.{Waits, IsStable}
use Rattle.cluster.proofs.Seated.{over_seen}
use Rattle.cluster.proofs.cluster.state.Cluster.cast_root.Goals as goal

pub returns-then-count-self : goal.returns-then-count-self
returns-then-count-self c =
    let s = c.args.self.now in
    let p = c.args.place in
    let d = c.args.root in
    let cast = subst (λ v. Casts c.args.r p v (ballots s.roots) (ballots c.cast.new.self))
    (c.in_ok-copied.ensures ∙ c.in_ok-word.ensures) c.in_ok-cast.ensures.casts in
    let n : c.count.result ≡ votes_for (ballots c.cast.new.self) p (Reply d) =
    c.count.ensures ∙ ap (votes_for (ballots c.cast.new.self) p) c.in_ok-word.ensures in
    record {
      rooted = record {
        same = record { limits = refl; requests = refl; ballots = refl; decisions = refl; events = refl };
        cases = Waits c.if-place-self.false cast refl refl refl refl (omega (arith, n, c.if-count-self.true));
      };
    }

pub invariant_of-self-2-clause-over : goal.invariant_of-self-2-clause-over
invariant_of-self-2-clause-over c =
    let s = c.args.self.now in
    over_seen s.limits.n c.args.place s.seats.items c.tell_all.new.seats.items c.tell_all.ensures s.over

pub returns : goal.returns
returns c =
    let s = c.args.self.now in
    let p = c.args.place in
    let d = c.args.root in
    let cast = subst (λ v. Casts c.args.r p v (ballots s.roots) (ballots c.cast.new.self))
    (c.in_ok-copied.ensures ∙ c.in_ok-word.ensures) c.in_ok-cast.ensures.casts in
    let n : c.count.result ≡ votes_for (ballots c.cast.new.self) p (Reply d) =
    c.count.ensures ∙ ap (votes_for (ballots c.cast.new.self) p) c.in_ok-word.ensures in
    record {
      rooted = record {
        same = record { limits = refl; requests = refl; ballots = refl; decisions = refl; events = refl };
        cases = IsStable c.if-place-self.false (ballots c.cast.new.self) cast c.drop_to.ensures.drops refl refl
            c.tell_all.ensures c.in_ok-push_line.ensures (omega (arith, n, c.if-count-self.false));
      };
    }
