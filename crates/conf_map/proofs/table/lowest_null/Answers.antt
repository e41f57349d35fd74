use Rattle.std.proofs.Common.{arith}
use Rattle.conf_map.proofs.Tallies.{lowest_in, lowest_past}
use Rattle.conf_map.proofs.table.lowest_null.Goals as goal

pub returns-then-from-len : goal.returns-then-from-len
returns-then-from-len c = lowest_past c.args.table.now.rows.items c.args.table.now.lowest c.requires.none_below
    (omega (arith, c.if-from-len.true, c.len.ensures))

pub returns-in-Some : goal.returns-in-Some
returns-in-Some c = lowest_in c.args.table.now.rows.items c.deref.result.now c.args.table.now.lowest _
    c.deref.ensures.value c.requires.none_below c.in-Some.ensures

pub returns-in-None : goal.returns-in-None
returns-in-None c = lowest_in c.args.table.now.rows.items c.deref.result.now c.args.table.now.lowest _
    c.deref.ensures.value c.requires.none_below c.in-None.ensures
