use Rattle.std.proofs.Common.{◌≡◌, vec_len}
use Rattle.seats.specs.Positions.{AreLater}
use Rattle.cluster.specs.Kept.{kept}
use Rattle.cluster.specs.Fetching.{scene, Gathered}
use Rattle.cluster.proofs.cluster.state.Cluster.collect.Given as goal

abbrev pub invariant-loop-stage : goal.invariant-loop-stage
invariant-loop-stage g l = record {
  gathered : Gathered (λ b. (goal.FileServer-dyn g (b.vtable, b.value)).state b.value) l.r l.stage
      (scene (kept l.fn.self) l.fn.bench.servers.items l.fn.bench.tables.items l.fn.met.items l.fn.lines.items)
      (scene (kept l.self) l.bench.servers.items l.bench.tables.items l.met.items l.lines.items);
  later : AreLater (λ b. (goal.FileServer-dyn g (b.vtable, b.value)).state b.value) (vec_len l.fn.self.seats)
      l.fn.bench.servers.items l.bench.servers.items;
  downs : l.bench.downs ≡ l.fn.bench.downs;
}
