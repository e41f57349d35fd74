use Rattle.std.proofs.Common.{inl}
use Rattle.std.proofs.lemmas.Result.{err_from_is_err_and}
use Rattle.cluster.specs.Kept.{kept}
use Rattle.basefs.specs.declared.run_err.RunErr.TheVariants as run
use Rattle.basefs.proofs.Stepped.{writes_err, writes_ok}
use Rattle.basefs.proofs.Beginning.{begun, begun_failed}
use Rattle.basefs.proofs.run.begin.Goals as goal

pub returns-in_err-write_lines-clause-begun : goal.returns-in_err-write_lines-clause-begun
returns-in_err-write_lines-clause-begun g c =
    let p = err_from_is_err_and c.from_residual-in_err-write_lines.result
    c.from_residual-in_err-write_lines.ensures.1 in
    λ left. rw (p.1, p.2) (inl (begun_failed _ c.args.limits.now (kept c.in_ok-cluster.cluster) _ _
    c.args.bench.now.tables.items _ c.args.bench.now.downs.items _ c.in_ok-cluster.lines.items
    c.in_ok-cluster.ensures.starts c.in_ok-cluster.ensures.servers c.requires.sizes left _ _ (run.Sink c.in_err-write_lines.field-0.0)
    (writes_err _ (rw c.deref.ensures.value at c.in_err-write_lines.ensures.bytes))))

pub returns-clause-begun : goal.returns-clause-begun
returns-clause-begun g c = λ left. begun _ c.args.limits.now (kept c.in_ok-cluster.cluster) _ _
    c.args.bench.now.tables.items _ c.args.bench.now.downs.items _ c.in_ok-cluster.lines.items
    c.in_ok-cluster.ensures.starts c.in_ok-cluster.ensures.servers c.requires.sizes left _ _ _
    (writes_ok (rw c.deref.ensures.value at c.in_ok-write_lines.ensures.bytes))
