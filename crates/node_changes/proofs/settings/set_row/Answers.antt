use Rattle.std.proofs.Common.{◌+◌, arith, ap, ◌∙◌}
use Rattle.server_trait.specs.declared.bench.ConfTable.{ConfTable}
use Rattle.node_changes.proofs.TallyLaws.{shifts_as}
use Rattle.node_changes.proofs.settings.set_row.Goals as goal

pub shift_used-requires-clause-fits : goal.shift_used-requires-clause-fits
shift_used-requires-clause-fits c =
    let is = c.unwrap_or.ensures in
    let fits = c.requires.count.fits in
    let same = c.time_object.ensures.tally.used in
    omega (arith, is, fits, same)

pub shift_used-requires-clause-has : goal.shift_used-requires-clause-has
shift_used-requires-clause-has c =
    let is = c.unwrap_or.ensures in
    let has = c.requires.count.has in
    let same = c.time_object.ensures.tally.used in
    let goes = c.bytes_going.ensures in
    omega (arith, is, goes, has, same)

pub returns : goal.returns
returns c = record {
  row = λ r at. ap (λ (t : ConfTable). t.rows.items) c.shift_used.ensures ∙ c.time_object.ensures.row r at;
  by_handle = ap (λ (t : ConfTable). t.by_handle) c.shift_used.ensures ∙ c.time_object.ensures.by_handle;
  tally = shifts_as _ _ c.bytes_going.ensures c.unwrap_or.ensures c.time_object.ensures.tally c.shift_used.ensures;
}
