use Rattle.std.proofs.Common.{length, ap, arith}
use Rattle.server_trait.proofs.TreeLaws.{is_some_and}
use Rattle.staging.specs.Staged.{Staged}
use Rattle.staging.proofs.Feeds.{filled_none, can_hold, fill_never, fill_after}
use Rattle.staging.proofs.filling.fill.Goals as goal

pub returns-then-bytes-eq0-clause-filled : goal.returns-then-bytes-eq0-clause-filled
returns-then-bytes-eq0-clause-filled g c t A S has can = is_some_and (λ t. Staged t c.args.staging.now c.args.table.now _ S) has
    (filled_none t _ c.args.staging.now c.args.table.now A S c.args.index c.args.entry.now can (let l = ap length c.bytes_in-bytes.ensures in omega (arith, l, c.if-bytes-eq0.true)))

pub returns-in-None-clause-filled : goal.returns-in-None-clause-filled
returns-in-None-clause-filled g c t A S has can = fill_never t _ c.args.staging.now c.args.table.now A S c.args.index c.args.entry.now can
    (let l = ap length c.bytes_in-bytes.ensures in omega (arith, l, c.if-bytes-eq0.false)) c.in-None.ensures

pub write_all-requires : goal.write_all-requires
write_all-requires g c = can_hold _ c.args.staging.now c.args.table.now c.args.index c.args.entry.now c.requires.can
    (let l = ap length c.bytes_in-bytes.ensures in omega (arith, l, c.if-bytes-eq0.false)) c.in-Some.node c.bytes_in-bytes.result.now c.bytes_in-bytes.ensures c.in-Some.ensures

pub returns-clause-filled : goal.returns-clause-filled
returns-clause-filled g c t A S has can = fill_after t _ c.args.staging.now c.args.table.now A S c.args.index c.args.entry.now can
    (let l = ap length c.bytes_in-bytes.ensures in omega (arith, l, c.if-bytes-eq0.false)) c.in-Some.node c.bytes_in-bytes.result.now c.bytes_in-bytes.ensures c.in-Some.ensures _ (c.in_ok-write_all.ensures.put t has)
