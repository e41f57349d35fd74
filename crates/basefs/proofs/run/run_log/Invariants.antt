use Rattle.std.proofs.Common.{◌≡◌, ◌≤◌, ◌+◌, ◌-◌, ◌*◌, length}
use Rattle.cluster.specs.Kept.{kept}
use Rattle.cluster.specs.OverBench.{HaveArrays}
use Rattle.basefs.specs.Setting.{setting}
use Rattle.basefs.specs.Going.{Going}
use Rattle.basefs.specs.Beginning.{all_records}
use Rattle.basefs.proofs.run.run_log.Given as goal

abbrev pub invariant-loop-turn : goal.invariant-loop-turn
invariant-loop-turn g l = record {
  going : Going (λ x. (goal.FileServer-dyn g (x.vtable, x.value)).state x.value) l.limits
      (all_records l.limits (length l.fn.bench.servers.items))
      (setting (g.S.Source.left l.fn.input) (g.O.Sink.written l.fn.out) l.fn.bench.servers.items
      l.fn.bench.tables.items l.fn.bench.downs.items)
      (setting (g.S.Source.left l.input) (g.O.Sink.written l.out) l.bench.servers.items l.bench.tables.items
      l.bench.downs.items)
      (kept l.cluster) (16777216 - l._turn) l.place;
  arrays : HaveArrays (λ x. (goal.FileServer-dyn g (x.vtable, x.value)).state x.value) (kept l.cluster)
      l.bench.servers.items l.bench.tables.items;
  near : l.place ≤ 24 + 65560 * l._turn;
  counted : (kept l.cluster).events ≡ l._turn;
  reads : g.S.Source.faults l.fn.input ≤ g.S.Source.faults l.input;
  writes : g.O.Sink.faults l.fn.out ≤ g.O.Sink.faults l.out;
}
