use Rattle.std.proofs.Common.{◌∙◌, ℕ, List, ap}
use Rattle.pointer_tree.specs.Tree.{pointer}
use Rattle.pointer_tree.proofs.Words.{pointer-zeros}
use Rattle.pointer_tree.proofs.RaiseLaws.{raise_none, raise_some}
use Rattle.pointer_tree.proofs.raise.raise_tree.Goals as goal

pub returns-then-top-eq0-clause-ok : goal.returns-then-top-eq0-clause-ok
returns-then-top-eq0-clause-ok g c = λ d _. raise_none c.args.area d c.args.top _ c.args.map.now c.if-top-eq0.true

pub returns-clause-ok : goal.returns-clause-ok
returns-clause-ok g c = λ d stands.
    let written = c.in_ok-write-in-Some.ensures.bytes in
    raise_some c.args.area _ d c.args.top c.in-Some.block _ _ c.args.map.now c.take.new.self c.requires.fits stands
    c.if-top-eq0.false
    c.in-Some.ensures.block.here c.in-Some.ensures.after
    (ap (λ (xs : List ℕ). pointer c.args.area xs 0) written ∙ c.set_pointer.ensures.here)
    (λ j nj. ap (λ (xs : List ℕ). pointer c.args.area xs j) written ∙ c.set_pointer.ensures.there j nj
    ∙ ap (λ (xs : List ℕ). pointer c.args.area xs j) c.zero_block-node.ensures ∙ pointer-zeros c.args.area j)
    c.write.ensures.others
