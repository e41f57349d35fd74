use Rattle.wrap_write.specs.Targets.{size_tests}
use Rattle.wrap_write.proofs.TargetFacts.{call_stale, call_refused, call_found}
use Rattle.wrap_write.proofs.target.to_set.Goals as goal

pub returns-in-Err-clause-found : goal.returns-in-Err-clause-found
returns-in-Err-clause-found g c A k = call_stale A c.args.table.now.rows.items c.args.node.now
    (λ e. size_tests A c.args.limits.now e c.args.sattr.now.size)
    c.in_ok-target.field-0 (c.in_ok-target.ensures.found A k) c.in-Err.refused c.in-Err.is

pub returns-in-Some-clause-found : goal.returns-in-Some-clause-found
returns-in-Some-clause-found g c A k = call_refused A c.args.table.now.rows.items c.args.node.now
    (λ e. size_tests A c.args.limits.now e c.args.sattr.now.size)
    c.in_ok-target.field-0 (c.in_ok-target.ensures.found A k) c.in-Ok.target c.in-Ok.is
    _ (c.no_size.ensures A _ k.tallied) c.in-Some.refused c.in-Some.is

pub returns-in-None-clause-found : goal.returns-in-None-clause-found
returns-in-None-clause-found g c A k = call_found A c.args.table.now.rows.items c.args.node.now
    (λ e. size_tests A c.args.limits.now e c.args.sattr.now.size)
    c.in_ok-target.field-0 (c.in_ok-target.ensures.found A k) c.in-Ok.target c.in-Ok.is
    _ (c.no_size.ensures A _ k.tallied) c.in-None.is
