use Rattle.std.proofs.Common.{sym, subst}
use Rattle.conf_map.specs.Stands.{StandValid}
use Rattle.store_tests.proofs.tests.kept.texts_of.Goals as goal

pub get_obj-requires-clause-stands : goal.get_obj-requires-clause-stands
get_obj-requires-clause-stands g c =
    let A = c.requires.stands.0 in
    (A, subst (λ t. StandValid t c.args.table.now A) (sym c.loop-index.invariant.same) c.requires.stands.1)
