use Rattle.std.proofs.Common.{length, ap, ◌∙◌, sym, subst}
use Rattle.partition_tree.specs.Digests.{IsTreeSize}
use Rattle.replica.proofs.EmptyArray.{some_texts}
use Rattle.replica.proofs.beginning.empty_tree.Goals as goal

pub empty_texts-requires : goal.empty_texts-requires
empty_texts-requires c = some_texts c.args.n c.requires

pub build-requires : goal.build-requires
build-requires c = subst IsTreeSize (sym (ap length c.as_slice.ensures.value ∙ c.in_ok-texts.ensures.size)) c.requires
