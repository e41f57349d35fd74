use Rattle.std.proofs.Common.{ap, sym, ◌∙◌, subst, length, refl, arith}
use Rattle.partition_tree.specs.Digests.{IsTreeSize}
use Rattle.store_tests.proofs.tests.kept.digests_of.Goals as goal

-- sixteen texts have one level of nodes above them
pub build-requires : goal.build-requires
build-requires g c =
    subst IsTreeSize (sym (ap length c.as_slice.ensures.value ∙ c.in_ok-texts.ensures.size ∙ c.requires.entries))
    (record { levels = 1; some = omega arith; few = omega arith; size = refl })
