use Rattle.std.proofs.Common.{refl, sym, ◌∙◌, ap, subst, [], ◌∷◌, ◌++◌, arith}
use Rattle.cluster_model.specs.Moments.{decision_line}
use Rattle.reply_vote.specs.Ballots.{ballots, Casts}
use Rattle.cluster.specs.Casting.{Late, Decided}
use Rattle.cluster.proofs.CastFacts.{some_value, no_value, not_at}
use Rattle.cluster.proofs.cluster.state.Cluster.cast.Goals as goal

pub returns-then-contains_key : goal.returns-then-contains_key
returns-then-contains_key c =
    let there = some_value _ (sym c.contains_key.ensures ∙ c.if-contains_key.true) in
    record {
      cast = record {
        same = record {
          limits = refl;
          requests = refl;
          seats = refl;
          roots = refl;
          stable = refl;
          root = refl;
          events = refl;
        };
        cases = Late there.0 there.1 refl refl refl;
      };
    }

pub returns-in-Ok : goal.returns-in-Ok
returns-in-Ok c =
    let p = c.args.place in
    let w = c.args.word in
    let here = no_value _ (sym c.contains_key.ensures ∙ c.if-contains_key.false) in
    let cast = subst (λ v. Casts c.args.r p v (ballots c.args.self.now.votes) (ballots c.cast.new.self))
    c.in_ok-copied.ensures c.in_ok-cast.ensures.casts in
    record {
      cast = record {
        same = record {
          limits = refl;
          requests = refl;
          seats = refl;
          roots = refl;
          stable = refl;
          root = refl;
          events = refl;
        };
        cases = Decided here (ballots c.cast.new.self) cast c.forget.ensures.forgets
            (record {
              here = c.in-Ok.ensures.updates.1;
              others = λ q ne. c.in-Ok.ensures.updates.2 q (not_at p q ne);
            })
            (c.in_ok-push_line.ensures ∙ ap (λ l. c.args.lines.now.items ++ l ∷ [])
            (c.decision_line.ensures ∙ ap (decision_line p) c.in_ok-copied-2.ensures))
            (omega (arith, c.if-count-self.true, c.count.ensures));
      };
    }
