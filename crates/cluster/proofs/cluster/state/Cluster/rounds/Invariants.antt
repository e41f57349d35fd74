use Rattle.std.proofs.Common.{◌≡◌, length, vec_len}
use Rattle.cluster_model.specs.Turns.{slots}
use Rattle.seats.specs.Positions.{AreLater}
use Rattle.cluster.specs.Kept.{kept}
use Rattle.cluster.specs.Turned.{Going}
use Rattle.cluster.proofs.cluster.state.Cluster.rounds.Given as goal

abbrev pub invariant-loop-done : goal.invariant-loop-done
invariant-loop-done g l = record {
  going : Going (λ b. (goal.FileServer-dyn g (b.vtable, b.value)).state b.value)
      (slots l.done (length l.fn.self.seats.items)) (kept l.fn.self) (kept l.self) l.fn.bench.servers.items
      l.bench.servers.items l.fn.bench.tables.items l.bench.tables.items l.fn.met.items l.met.items l.fn.lines.items
      l.lines.items;
  later : AreLater (λ b. (goal.FileServer-dyn g (b.vtable, b.value)).state b.value) (vec_len l.fn.self.seats)
      l.fn.bench.servers.items l.bench.servers.items;
  downs : l.bench.downs ≡ l.fn.bench.downs;
}
