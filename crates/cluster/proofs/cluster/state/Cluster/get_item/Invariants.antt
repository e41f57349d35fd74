use Rattle.std.proofs.Common.{◌≡◌, vec_len}
use Rattle.cluster_model.specs.Tree.{item}
use Rattle.seats.specs.Positions.{AreLater}
use Rattle.cluster.specs.Kept.{kept}
use Rattle.cluster.specs.Fetching.{scene, Refused}
use Rattle.cluster.proofs.cluster.state.Cluster.get_item.Given as goal

abbrev pub invariant-loop-source : goal.invariant-loop-source
invariant-loop-source g l = record {
  refused : Refused (λ b. (goal.FileServer-dyn g (b.vtable, b.value)).state b.value) l.r l.stage l.source
      (item l.item.level l.item.number)
      (scene (kept l.fn.self) l.fn.bench.servers.items l.fn.bench.tables.items l.fn.met.items l.fn.lines.items)
      (scene (kept l.self) l.bench.servers.items l.bench.tables.items l.met.items l.lines.items);
  later : AreLater (λ b. (goal.FileServer-dyn g (b.vtable, b.value)).state b.value) (vec_len l.fn.self.seats)
      l.fn.bench.servers.items l.bench.servers.items;
  downs : l.bench.downs ≡ l.fn.bench.downs;
}
