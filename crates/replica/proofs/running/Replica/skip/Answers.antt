use Rattle.std.proofs.Common.{◌+◌, refl, sym, ap, subst, ◌∙◌, arith}
use Rattle.conf_map.specs.Stands.{StandsValid}
use Rattle.replica.specs.Replicas.{checked}
use Rattle.replica.proofs.Answering.{stand_valid}
use Rattle.replica.proofs.Overs.{over_passing, passing_is}
use Rattle.replica.proofs.running.Replica.skip.Goals as goal

pub check-requires-clause-stands : goal.check-requires-clause-stands
check-requires-clause-stands g c =
    let has = c.requires.stands in
    (has.0, stand_valid c.args.limits.now _ c.args.table.now has.0 c.requires.within has.1)

pub check-requires-clause-rows : goal.check-requires-clause-rows
check-requires-clause-rows g c = (let h = c.requires.stands.1 in h.stands.size ∙ h.valid.size)

pub check-requires-clause-over : goal.check-requires-clause-over
check-requires-clause-over g c =
    over_passing c.args.limits.now.n (c.args.self.now.place + 1) c.args.self.now (omega arith) c.requires.over

pub check-requires-clause-later : goal.check-requires-clause-later
check-requires-clause-later g c = (let t = c.requires.over.taken in omega arith)

pub returns-clause-skipped : goal.returns-clause-skipped
returns-clause-skipped g c = record {
  step = λ A sv. (
    subst (λ t. StandsValid c.args.limits.now t c.args.table.now A) (sym c.in_ok-root.ensures.same) sv,
    c.in_ok-root.ensures.checked A (stand_valid c.args.limits.now _ c.args.table.now A c.requires.within sv)
        ∙ ap (checked c.args.limits.now A) (passing_is c.args.self.now (c.args.self.now.place + 1) refl),
  );
  root_word = c.in_ok-root.ensures.root;
}
