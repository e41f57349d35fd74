use Rattle.std.proofs.Common.{◌∙◌}
use Rattle.abstraction_fn.proofs.Listed.{rows_are}
use Rattle.abstraction_fn.proofs.rows.rows_of.Goals as goal

pub returns-clause-rows : goal.returns-clause-rows
returns-clause-rows g c A k is_d =
    let d = c.args.dir.now in
    c.new.ensures
    ∙ c.in_ok-rows.ensures
    ∙ rows_are _ c.args.table.now A k d.index d.handle c.requires.live c.in_ok-listed.listed.items
    (c.in_ok-listed.ensures.rows A k is_d)
