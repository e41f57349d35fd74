use Rattle.std.proofs.Common.{arith, sym, ◌∙◌}
use Rattle.abs_plain.proofs.edits.moves.rename.Goals as goal

pub unlinked-requires-clause-within : goal.unlinked-requires-clause-within
unlinked-requires-clause-within c = rw (c.target-j.ensures, c.at-e.ensures) (c.requires.over (rw c.at-e.ensures at (sym c.has_name-over.ensures ∙ c.if-over-2.true)))

pub unlinked-requires-clause-few : goal.unlinked-requires-clause-few
unlinked-requires-clause-few c = rw (c.target-j.ensures, c.at-e.ensures) c.requires.few

pub overflow_cast-j : goal.overflow_cast-j
overflow_cast-j c = rw (c.target-j.ensures, c.at-e.ensures)
    (let below = c.requires.over (rw c.at-e.ensures at (sym c.has_name-over.ensures ∙ c.if-over-2.true)) in omega arith)
