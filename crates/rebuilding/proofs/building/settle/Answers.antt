use Rattle.std.proofs.Common.{◌≡◌, length, arith}
use Rattle.rebuilding.proofs.Finals.{settled}
use Rattle.rebuilding.proofs.building.settle.Goals as goal

pub set_parents-requires-clause-few : goal.set_parents-requires-clause-few
set_parents-requires-clause-few c = let a = c.requires.valid.size in let b = c.requires.within.1 in omega (arith, a, b)

pub set_tally-requires : goal.set_tally-requires
set_tally-requires c = let a = c.requires.valid.room in let b = c.requires.within.3 in omega (arith, a, b)

pub returns : goal.returns
returns c = record {
  stands = λ s area at. settled c.args.limits.now c.args.entries.now c.requires.valid c.args.table.now c.set_parents.new.table c.set_tally.new.table c.set_parents.ensures.only c.set_parents.ensures.parents
      c.set_tally.ensures.rows c.set_tally.ensures.by_handle c.set_tally.ensures.tallied s area at;
}
