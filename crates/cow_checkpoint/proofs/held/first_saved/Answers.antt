use Rattle.std.proofs.Common.{◌+◌, sym, ◌∙◌}
use Rattle.cow_checkpoint.proofs.Texts.{none_so_far, found_among}
use Rattle.cow_checkpoint.proofs.held.first_saved.Goals as goal

pub returns-in-Some : goal.returns-in-Some
returns-in-Some c =
    let older = c.args.older.now in
    let j = c.loop-c.c-index in
    let here = none_so_far c.args.place c.args.index older j c.c-item.result c.loop-c-test.true c.c-item.is
    c.loop-c.invariant in
    sym (found_among c.args.place c.args.index older (j + 1) c.in-Some.text.now (here ∙ sym c.in-Some.ensures))
