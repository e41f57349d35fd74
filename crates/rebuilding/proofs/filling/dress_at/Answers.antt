use Rattle.rebuilding.proofs.Dressings.{dress_can, dress_one, dress_none}
use Rattle.rebuilding.proofs.filling.dress_at.Goals as goal

pub returns-in-None-clause-dressed : goal.returns-in-None-clause-dressed
returns-in-None-clause-dressed g c t A S has can = dress_none _ t c.args.staging.now c.args.table.now A S c.args.index c.args.entry.now c.in-None.ensures has can

pub dress-requires : goal.dress-requires
dress-requires g c = record { can = dress_can _ c.args.staging.now c.args.table.now c.args.index c.args.entry.now c.in-Some.attr c.in-Some.ensures c.requires.can }

pub returns-clause-dressed : goal.returns-clause-dressed
returns-clause-dressed g c t A S has can = dress_one t c.args.staging.now c.args.table.now A S c.args.index c.args.entry.now c.in-Some.attr c.in-Some.ensures can _ c.dress.new.table
    (λ k. c.in_ok-dress.ensures.dressed t A S has k)
