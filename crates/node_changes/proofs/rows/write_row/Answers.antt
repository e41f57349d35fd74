use Rattle.std.proofs.Common.{ap, ◌∙◌}
use Rattle.server_trait.specs.declared.bench.ConfTable.{ConfTable}
use Rattle.conf_map.specs.Stands.{handle_at}
use Rattle.node_changes.proofs.TallyLaws.{still_shifts, shifts}
use Rattle.node_changes.proofs.rows.write_row.Goals as goal

pub shift_used-requires-clause-fits : goal.shift_used-requires-clause-fits
shift_used-requires-clause-fits c =
    (still_shifts c.args.goes c.args.comes c.touch_row.ensures.tally c.requires.count).fits

pub shift_used-requires-clause-has : goal.shift_used-requires-clause-has
shift_used-requires-clause-has c =
    (still_shifts c.args.goes c.args.comes c.touch_row.ensures.tally c.requires.count).has

pub returns : goal.returns
returns c = record {
  row = λ r at. ap (λ (t : ConfTable). t.rows.items) c.shift_used.ensures ∙ c.touch_row.ensures.row r at;
  handles = λ i. ap (λ (t : ConfTable). handle_at t.rows.items i) c.shift_used.ensures ∙ c.touch_row.ensures.handles i;
  by_handle = ap (λ (t : ConfTable). t.by_handle) c.shift_used.ensures ∙ c.touch_row.ensures.by_handle;
  tally = shifts c.args.goes c.args.comes c.touch_row.ensures.tally c.shift_used.ensures;
}
