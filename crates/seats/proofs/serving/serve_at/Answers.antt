use Rattle.std.proofs.Common.{◌∙◌, sym, arith, rules}
use Rattle.std.proofs.lemmas.Option.{slice_get_within}
use Rattle.seats.proofs.Positions.{changes_set, watched_at, stands_here}
use Rattle.seats.proofs.Rebuilding.{valid_here}
use Rattle.seats.proofs.Served.{rows_of, tree_same, given_at}
use Rattle.seats.proofs.serving.serve_at.Goals as goal

pub returns-in_err-lie-clause-watched : goal.returns-in_err-lie-clause-watched
returns-in_err-lie-clause-watched g c =
    let h = c.requires.stands.1 in record {
      before = h.server;
      after = h.server;
      is_before = h.is_server;
      is_after = h.is_server;
      watched = search rules;
    }

pub index_mut-requires : goal.index_mut-requires
index_mut-requires g c =
    let b = c.args.bench.now in
    let h = c.requires.stands.1 in
    let within = slice_get_within b.servers.items c.args.r h.server h.is_server in
    let servers = b.servers.ok.0 in
    omega (arith, within, servers)

pub index-requires : goal.index-requires
index-requires g c =
    let b = c.args.bench.now in
    let h = c.requires.stands.1 in
    let within = slice_get_within b.tables.items c.args.r h.table h.is_table in
    let tables = b.tables.ok.0 in
    omega (arith, within, tables)

pub serve_item-requires-clause-stands : goal.serve_item-requires-clause-stands
serve_item-requires-clause-stands g c =
    let b = c.args.bench.now in
    valid_here _ b.servers.items b.tables.items c.args.r c.args.limits.now c.requires.stands.1 _ c.index_mut.result.now
    _ c.index.result.now c.index_mut.ensures.value c.index.ensures c.requires.within

pub serve_item-requires-clause-size : goal.serve_item-requires-clause-size
serve_item-requires-clause-size g c =
    let b = c.args.bench.now in
    rows_of c.args.limits.now c.args.replica.now.store.size _ c.index.result.now c.requires.stands.0
    (stands_here _ b.servers.items b.tables.items c.args.r c.args.limits.now c.requires.stands.1 _
    c.index_mut.result.now _ c.index.result.now c.index_mut.ensures.value c.index.ensures) c.requires.over.size

pub returns-clause-given : goal.returns-clause-given
returns-clause-given g c =
    let b = c.args.bench.now in
    let i = c.args.item in
    given_at _ b.servers.items b.tables.items c.args.r c.args.limits.now c.requires.stands.1 _ c.serve_item.new.server _
    c.index_mut.ensures.value c.index.ensures c.serve_item.result c.args.place i.level i.number c.args.replica.now
    c.requires.within (sym c.in_default.is ∙ c.in_ok-lie.ensures) c.serve_item.ensures.held

pub returns-clause-stands : goal.returns-clause-stands
returns-clause-stands g c =
    let b = c.args.bench.now in
    tree_same _ b.servers.items b.tables.items c.args.r c.args.limits.now c.requires.stands.1 _ _ _
    c.index_mut.ensures.value c.index.ensures c.serve_item.result c.serve_item.ensures.tree

pub returns-clause-watched : goal.returns-clause-watched
returns-clause-watched g c =
    let b = c.args.bench.now in
    watched_at _ b.servers.items b.tables.items c.args.r c.args.limits.now c.requires.stands.1 _ _ _ c.index.result.now
    c.index_mut.ensures.value c.index.ensures c.serve_item.ensures.watched

pub returns-clause-servers : goal.returns-clause-servers
returns-clause-servers g c = changes_set _ _ _
