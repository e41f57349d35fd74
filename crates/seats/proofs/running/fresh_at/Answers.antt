use Rattle.std.proofs.Common.{arith}
use Rattle.seats.proofs.Positions.{changes_set, fresh_watched, fresh_stands}
use Rattle.seats.proofs.running.fresh_at.Goals as goal

pub returns-clause-stands : goal.returns-clause-stands
returns-clause-stands g c =
    let b = c.args.bench.now in
    let servers = b.servers.ok.0 in
    let tables = b.tables.ok.0 in
    fresh_stands _ b.servers.items b.tables.items c.args.r (omega (arith, c.requires.server, servers))
    (omega (arith, c.requires.table, tables)) c.index_mut.result.now _ c.index_mut-2.result.now _
    c.index_mut.ensures.value c.args.limits.now _ c.fresh.result c.fresh.ensures.stands

pub returns-clause-watched : goal.returns-clause-watched
returns-clause-watched g c =
    let b = c.args.bench.now in
    let servers = b.servers.ok.0 in
    let tables = b.tables.ok.0 in
    fresh_watched _ b.servers.items b.tables.items c.args.r (omega (arith, c.requires.server, servers))
    (omega (arith, c.requires.table, tables)) c.index_mut.result.now _ c.index_mut-2.result.now c.fresh.new.table
    c.index_mut.ensures.value c.fresh.ensures.watched

pub returns-clause-servers : goal.returns-clause-servers
returns-clause-servers g c = changes_set _ _ _

pub returns-clause-tables : goal.returns-clause-tables
returns-clause-tables g c = changes_set _ _ _
