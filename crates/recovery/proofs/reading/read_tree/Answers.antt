use Rattle.std.proofs.Common.{length, ap, sym, subst, ◌∙◌}
use Rattle.partition_tree.specs.Digests.{IsTreeSize, digests}
use Rattle.recovery.proofs.Standing.{few_texts}
use Rattle.recovery.proofs.reading.read_tree.Goals as goal

pub read_texts-requires-clause-few : goal.read_texts-requires-clause-few
read_texts-requires-clause-few g c = few_texts _ c.requires.size

pub build-requires : goal.build-requires
build-requires g c =
    subst IsTreeSize (sym (ap length c.as_slice.ensures.value ∙ c.in_ok-texts.ensures.size)) c.requires.size

pub returns-clause-digests : goal.returns-clause-digests
returns-clause-digests g c A st =
    c.in_ok-tree.ensures ∙ ap digests c.as_slice.ensures.value ∙ c.in_ok-texts.ensures.digests A st
