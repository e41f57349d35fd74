use Rattle.std.proofs.Common.{arith}
use Rattle.nfs2_results.proofs.Limits.{is_result}
use Rattle.nfs2_results.proofs.reading.read_result.Goals as goal

pub returns : goal.returns
returns c = record {
  read = is_result c.args.proc c.args.bytes.now c.whole_result.result (λ i. omega (arith, c.type_inv.bytes i))
      c.whole_result.ensures;
}
