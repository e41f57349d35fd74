use Rattle.std.proofs.Common.{◌≡◌, ap, ◌∙◌, arith}
use Rattle.std.proofs.lemmas.List.Sums.{sum_by_more_le}
use Rattle.abs_model.specs.Array.{null_entry, entry_at}
use Rattle.abs_model.specs.Objects.{used_by}
use Rattle.rebuilding.proofs.Makings.{get_same}
use Rattle.rebuilding.proofs.tally.used_of.Goals as goal

pub overflow_add-sum : goal.overflow_add-sum
overflow_add-sum c =
    let low = c.loop-entry-test.true in
    let so_far = c.loop-entry.invariant in
    let most = c.requires in
    let all = sum_by_more_le used_by c.args.entries.now c.loop-entry.entry-index null_entry low in
    let here : c.used_by-sum.result ≡ used_by (entry_at c.args.entries.now c.loop-entry.entry-index) =
    c.used_by-sum.ensures ∙ ap used_by (c.entry-item.is ∙ get_same c.args.entries.now c.loop-entry.entry-index c.entry-item.result null_entry low) in
    omega (arith, so_far, most, all, here)
