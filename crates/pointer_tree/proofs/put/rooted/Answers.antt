use Rattle.std.proofs.Common.{◌∙◌}
use Rattle.pointer_tree.proofs.Steps.{roots_new, roots_same}
use Rattle.pointer_tree.proofs.put.rooted.Goals as goal

pub returns-clause-ok : goal.returns-clause-ok
returns-clause-ok g c =
    λ d _. roots_new c.args.area _ c.args.top c.in-Some.block _ _ c.args.map.now c.take.new.self c.requires.fits
    c.if-top-ne0.false
    c.in-Some.ensures.block.here c.in-Some.ensures.after (c.in_ok-write-in-Some.ensures.bytes ∙ c.zero_block.ensures)
    c.write.ensures.others d

pub returns-then-top-ne0-clause-ok : goal.returns-then-top-ne0-clause-ok
returns-then-top-ne0-clause-ok g c = λ d _. roots_same c.args.area d c.args.top _ c.args.map.now c.requires.top_is
    c.if-top-ne0.true
