use Rattle.std.proofs.Common.{◌∙◌, arith}
use Rattle.staging.proofs.OtherParents.{only_same}
use Rattle.rebuilding.proofs.Finals.{only_both, parents_more}
use Rattle.rebuilding.proofs.parents.set_parents.Goals as goal

pub loop-i-init : goal.loop-i-init
loop-i-init c = record { only = only_same c.args.table.now; parents = λ j r low at dir. absurd (omega (arith, low)) }

pub set_parent_at-requires-clause-size : goal.set_parent_at-requires-clause-size
set_parent_at-requires-clause-size c = c.loop-i.invariant.only.size ∙ c.requires.size

pub loop-i-preserved : goal.loop-i-preserved
loop-i-preserved c = record {
  only = only_both c.args.table.now c.loop-i.table c.set_parent_at.new.table c.loop-i.invariant.only c.set_parent_at.ensures.only;
  parents = parents_more c.args.entries.now c.loop-i.i c.loop-i.table.rows.items c.set_parent_at.new.table.rows.items c.loop-i.invariant.parents c.set_parent_at.ensures.others c.set_parent_at.ensures.here;
}

pub returns-clause-parents : goal.returns-clause-parents
returns-clause-parents c i r low at dir = let test = c.loop-i-test.false in c.loop-i.invariant.parents i r (omega (arith, low, test)) at dir
