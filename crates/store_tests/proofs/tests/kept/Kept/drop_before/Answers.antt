use Rattle.std.proofs.Common.{ap, ◌∙◌}
use Rattle.cow_checkpoint.specs.Store.{Store}
use Rattle.store_tests.proofs.tests.kept.Kept.drop_before.Goals as goal

pub returns : goal.returns
returns g c = record {
  ready = c.requires.ready;
  size = ap (λ (s : Store). s.size) c.drop_before.ensures ∙ c.requires.size;
  taken = ap (λ (s : Store). s.taken) c.drop_before.ensures ∙ c.requires.taken;
}
