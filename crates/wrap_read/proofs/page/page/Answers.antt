use Rattle.std.proofs.Common.{arith, true, false, ap, ◌∙◌}
use Rattle.nfs2_types.specs.declared.NfsResult.TheVariants.{Entries}
use Rattle.wrap_read.specs.Rows.{all_entries}
use Rattle.wrap_read.proofs.Pages.{given_next, page_stops, page_ends, entries_length}
use Rattle.wrap_read.proofs.page.page.Goals as goal

pub returns-then-needed-left : goal.returns-then-needed-left
returns-then-needed-left c =
    ap (λ es. Entries es false) c.new.ensures
    ∙ page_stops (all_entries c.args.table.now c.args.d c.args.parent c.args.names.now) c.args.cookie c.args.count
    c.loop-place.given.items c.loop-place.left c.loop-place.place c.loop-place.invariant
    c.in_ok-entry.entry c.in_ok-entry.ensures (omega (arith, c.if-needed-left.true, c.room_of-needed.ensures))

pub loop-place-preserved : goal.loop-place-preserved
loop-place-preserved c =
    given_next (all_entries c.args.table.now c.args.d c.args.parent c.args.names.now) c.args.cookie c.args.count
    c.loop-place.given.items c.loop-place.left c.loop-place.place c.loop-place.invariant
    c.in_ok-entry.entry c.in_ok-entry.ensures _ c.room_of-needed.result c.in_ok-push.ensures.items
    c.room_of-needed.ensures c.if-needed-left.false

pub returns : goal.returns
returns c =
    ap (λ es. Entries es true) c.new-2.ensures
    ∙ page_ends (all_entries c.args.table.now c.args.d c.args.parent c.args.names.now) c.args.cookie c.args.count
    c.loop-place.given.items c.loop-place.left c.loop-place.place c.loop-place.invariant
    (let n = entries_length c.args.table.now 3 c.args.names.now in omega (arith, n, c.loop-place-test.false))
