use Rattle.std.proofs.Common.{◌≡◌, ◌<◌, length, arith}
use Rattle.server_trait.specs.declared.WrapErr.TheVariants.{Down}
use Rattle.cluster.proofs.BeginClauses.{begins_down}
use Rattle.cluster.proofs.cluster.begins.begin.Goals as goal

pub returns-in_ok-push_point-in-Err-Down-clause-begins :
    goal.returns-in_ok-push_point-in-Err-Down-clause-begins
returns-in_ok-push_point-in-Err-Down-clause-begins g c =
    let b = c.args.bench.now in
    let within : c.args.r < length b.servers.items = omega (arith, c.requires.server, b.servers.ok.0) in
    let in_table : c.args.r < length b.tables.items = omega (arith, c.requires.table, b.tables.ok.0) in
    let f : c.in-Err-Down.field-0 ≡ Down = c.in-Err-Down.field-0-is in
    begins_down _ c.args.limits.now c.args.r _ _ _ _ _ _ _ _ _ _ c.fresh_at.result c.in-Err-Down.field-0
    f within in_table c.in-Err-Down.ensures.watched c.fresh_at.ensures.servers c.fresh_at.ensures.tables
    c.in_ok-push_seat-in-Err-Down.ensures c.in_ok-push_line-in-Err-Down.ensures
    c.in_ok-push_point-in-Err-Down.ensures
