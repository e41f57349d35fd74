use Rattle.std.proofs.Common.{◌≡◌, ◌<◌, ◌+◌, length, ap, ◌∙◌, arith}
use Rattle.std.proofs.lemmas.List.{length_push}
use Rattle.abs_model.specs.Array.{empty_array}
use Rattle.abs_text.specs.Text.{entry_text}
use Rattle.replica.proofs.EmptyArray.{digests_more, length-empty}
use Rattle.replica.proofs.beginning.empty_texts.Goals as goal

pub loop-index-preserved : goal.loop-index-preserved
loop-index-preserved c =
    let n = c.args.n in
    let i = c.loop-index.index in
    let size : length (empty_array n) ≡ n = length-empty n c.requires in
    let within : i < length (empty_array n) = omega (arith, size, c.loop-index-test.true) in
    record {
      digests = digests_more (empty_array n) i c.loop-index.texts.items c.push.new.texts.items c.new.result within
          c.loop-index.invariant.digests c.in_ok-push.ensures
          (c.new.ensures ∙ c.in_ok-text.ensures
          ∙ ap (entry_text i) (c.first_entry-entry.ensures.entry n c.loop-index-test.true));
      size = ap length c.in_ok-push.ensures ∙ length_push c.loop-index.texts.items c.new.result
          ∙ ap (λ k. k + 1) c.loop-index.invariant.size;
    }
