use Rattle.std.proofs.Common.{◌≡◌, vec_len, []}
use Rattle.cluster.proofs.cluster.begins.prepare.Given as goal

abbrev pub invariant-loop-table : goal.invariant-loop-table
invariant-loop-table g l = record {
  servers : l.bench.servers.items ≡ l.fn.bench.servers.items;
  tables : vec_len l.bench.tables ≡ l._table;
  downs : l.bench.downs.items ≡ [];
}
