use Rattle.std.proofs.Common.{◌≡◌, vec_len, []}
use Rattle.seats.specs.Positions.{AreLater}
use Rattle.cluster.specs.Begun.{Begun}
use Rattle.cluster.proofs.cluster.begins.begin_all.Given as goal

abbrev pub invariant-loop-r : goal.invariant-loop-r
invariant-loop-r g l = record {
  begun : Begun (λ b. (goal.FileServer-dyn g (b.vtable, b.value)).state b.value) l.limits l.r
      l.fn.bench.servers.items l.bench.servers.items l.bench.tables.items l.begun.seats.items l.begun.met.items
      l.begun.lines.items;
  later : AreLater (λ b. (goal.FileServer-dyn g (b.vtable, b.value)).state b.value) l.replicas
      l.fn.bench.servers.items l.bench.servers.items;
  tables : vec_len l.bench.tables ≡ vec_len l.fn.bench.servers;
  downs : l.bench.downs.items ≡ [];
}
