use Rattle.seats.proofs.Positions.{changes_set, watched_at, stands_here}
use Rattle.seats.proofs.Rebuilding.{valid_here, if_valid_at, stands_again}
use Rattle.recovery.specs.Rebuilt.{Begins}
use Rattle.recovery.proofs.Standing.{rows_many}
use Rattle.seats.proofs.rebuilds.reboot_at.Goals as goal

pub after_reboot-requires-clause-stands : goal.after_reboot-requires-clause-stands
after_reboot-requires-clause-stands g c =
    let b = c.args.bench.now in
    valid_here _ b.servers.items b.tables.items c.args.r c.args.limits.now c.requires.stands.1 _ c.index_mut.result.now
    _ c.index_mut-2.result.now c.index_mut.ensures.value c.index_mut-2.ensures.value c.requires.within

pub after_reboot-requires-clause-size : goal.after_reboot-requires-clause-size
after_reboot-requires-clause-size g c =
    let b = c.args.bench.now in
    rows_many c.args.limits.now _ c.index_mut-2.result.now c.requires.stands.0
    (stands_here _ b.servers.items b.tables.items c.args.r c.args.limits.now c.requires.stands.1 _
    c.index_mut.result.now _ c.index_mut-2.result.now c.index_mut.ensures.value c.index_mut-2.ensures.value)
    c.requires.size

pub returns-clause-stands : goal.returns-clause-stands
returns-clause-stands g c =
    let b = c.args.bench.now in
    stands_again _ b.servers.items b.tables.items c.args.r c.args.limits.now c.requires.stands.1 _ _ _ _
    c.index_mut.ensures.value c.index_mut-2.ensures.value c.after_reboot.result c.after_reboot.ensures.stands

pub returns-clause-begins : goal.returns-clause-begins
returns-clause-begins g c =
    let b = c.args.bench.now in
    if_valid_at _ b.servers.items b.tables.items c.args.r c.args.limits.now c.requires.stands.1 _
    c.after_reboot.new.server _ c.after_reboot.new.table c.index_mut.ensures.value c.index_mut-2.ensures.value
    c.after_reboot.result Begins c.requires.within c.after_reboot.ensures.begins

pub returns-clause-watched : goal.returns-clause-watched
returns-clause-watched g c =
    let b = c.args.bench.now in
    watched_at _ b.servers.items b.tables.items c.args.r c.args.limits.now c.requires.stands.1 _ _ _
    c.after_reboot.new.table c.index_mut.ensures.value c.index_mut-2.ensures.value c.after_reboot.ensures.watched

pub returns-clause-servers : goal.returns-clause-servers
returns-clause-servers g c = changes_set _ _ _

pub returns-clause-tables : goal.returns-clause-tables
returns-clause-tables g c = changes_set _ _ _
