use Rattle.std.proofs.Common.{◌∙◌}
use Rattle.store_tests.proofs.tests.kept.Kept.call.Goals as goal

pub returns : goal.returns
returns g c = record {
  ready = c.in_ok-_word.ensures.ready;
  size = c.in_ok-_word.ensures.size ∙ c.requires.size;
  taken = c.in_ok-_word.ensures.taken ∙ c.requires.taken;
}
