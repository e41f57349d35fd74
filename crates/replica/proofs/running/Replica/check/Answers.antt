use Rattle.std.proofs.Common.{◌≡◌, ◌%◌, true, ap, sym, subst, ◌∙◌}
use Rattle.std.specs.Prelude.{◌==◌}
use Rattle.std.proofs.lemmas.Bool.{eq-eqb}
use Rattle.replica.specs.declared.running.Replica.{Replica}
use Rattle.replica.specs.Replicas.{IsOver}
use Rattle.replica.proofs.Overs.{over_taken}
use Rattle.replica.proofs.running.Replica.check.Goals as goal

pub returns-clause-root : goal.returns-clause-root
returns-clause-root g c =
    let taken = c.in_ok-take_checkpoint.ensures.taken c.requires.stands.0 c.requires.stands.1 in
    let k = c.args.limits.now.k in
    let due : (c.args.self.now.place % k == 0) ≡ true =
    eq-eqb (c.args.self.now.place % k) 0 c.if-self-limits-ne0.false in
    (ap (λ (x : Replica). x.place % k == 0) taken ∙ due, (c.root.result, c.root.ensures, c.root_for.ensures))

pub returns-clause-over : goal.returns-clause-over
returns-clause-over g c =
    let taken = c.in_ok-take_checkpoint.ensures.taken c.requires.stands.0 c.requires.stands.1 in
    subst (IsOver c.args.limits.now.n) (sym taken)
    (over_taken c.args.limits.now.n c.requires.stands.0 c.args.self.now c.requires.over)
