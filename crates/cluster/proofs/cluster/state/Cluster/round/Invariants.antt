use Rattle.std.proofs.Common.{◌≡◌, false, vec_len}
use Rattle.seats.specs.Positions.{AreLater}
use Rattle.cluster.specs.Kept.{kept}
use Rattle.cluster.specs.Turned.{round_slots, Going, Idled}
use Rattle.cluster.proofs.cluster.state.Cluster.round.Given as goal

abbrev pub invariant-loop-r : goal.invariant-loop-r
invariant-loop-r g l = record {
  going : Going (λ b. (goal.FileServer-dyn g (b.vtable, b.value)).state b.value) (round_slots l.round l.r)
      (kept l.fn.self) (kept l.self) l.fn.bench.servers.items l.bench.servers.items l.fn.bench.tables.items
      l.bench.tables.items l.fn.met.items l.met.items l.fn.lines.items l.lines.items;
  idled : l.ran ≡ false → Idled (λ b. (goal.FileServer-dyn g (b.vtable, b.value)).state b.value) l.r (kept l.fn.self)
      (kept l.self) l.fn.bench.servers.items l.bench.servers.items l.fn.bench.tables.items l.bench.tables.items;
  later : AreLater (λ b. (goal.FileServer-dyn g (b.vtable, b.value)).state b.value) (vec_len l.fn.self.seats)
      l.fn.bench.servers.items l.bench.servers.items;
  downs : l.bench.downs ≡ l.fn.bench.downs;
}
