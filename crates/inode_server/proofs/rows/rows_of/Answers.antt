use Rattle.std.proofs.Common.{◌≡◌, ◌+◌, ◌-◌, ◌*◌, ◌/◌, ◌<◌, length, take, drop, map, sym, ap, ◌∙◌, arith, subst}
use Rattle.std.proofs.lemmas.List.{take_all}
use Rattle.inode_dirs.specs.SlotBytes.{slot_in, slots_in}
use Rattle.inode_tree.specs.Kept.{tables_of}
use Rattle.inode_tree.proofs.TiedLaws.{length-pieces}
use Rattle.inode_server.specs.Rows.{row_of}
use Rattle.inode_server.proofs.RowLaws.{slot_at, rows_next}
use Rattle.inode_server.proofs.rows.rows_of.Goals as goal

pub listed-requires-clause-led : goal.listed-requires-clause-led
listed-requires-clause-led c =
    let k = c.loop-slot.slot in
    let b = c.args.bytes.now in
    let width : 288 * k + 288 - 288 * k ≡ 288 = omega arith in
    subst (λ n. (slot_in (take n (drop (288 * k) b))).1 < (tables_of c.args.tables.now).counts.inodes) (sym width)
    (c.requires.led k (slot_in (take 288 (drop (288 * k) b))) (slot_at b k c.loop-slot-test.true))

pub loop-slot-preserved : goal.loop-slot-preserved
loop-slot-preserved c =
    let k = c.loop-slot.slot in
    let b = c.args.bytes.now in
    let h = (tables_of c.args.tables.now).handle in
    let width : 288 * k + 288 - 288 * k ≡ 288 = omega arith in
    c.in_ok-push.ensures.items
    ∙ rows_next (row_of h) (slots_in (length b / 288) b) k (slot_in (take 288 (drop (288 * k) b))) c.loop-slot.rows.items
    c.in_ok-row.row (slot_at b k c.loop-slot-test.true) c.loop-slot.invariant (c.in_ok-row.ensures
    ∙ ap (λ n. row_of h (slot_in (take n (drop (288 * k) b)))) width)

pub returns : goal.returns
returns c =
    let b = c.args.bytes.now in
    let all = length-pieces (length b / 288) b in
    let end = c.loop-slot-test.false in
    c.loop-slot.invariant ∙ ap (map (row_of (tables_of c.args.tables.now).handle))
    (take_all c.loop-slot.slot (slots_in (length b / 288) b) (omega (arith, all, end)))
