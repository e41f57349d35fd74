use Rattle.std.proofs.Common.{sym}
use Rattle.node_changes.proofs.WriteLaws.{nothing_put, can_fill, can_write, all_put}
use Rattle.node_changes.proofs.put.put.Goals as goal

pub returns-then-is_empty-clause-put : goal.returns-then-is_empty-clause-put
returns-then-is_empty-clause-put g c =
    nothing_put _ c.args.file.now c.args.size c.args.offset c.args.piece.now c.requires (sym c.if-is_empty.ensures)

pub fill-requires : goal.fill-requires
fill-requires g c = can_fill _ c.args.file.now c.args.size c.args.offset c.args.piece.now c.requires
    (sym c.if-is_empty.ensures)

pub write_all-requires : goal.write_all-requires
write_all-requires g c = can_write _ c.args.file.now c.args.size c.args.offset c.args.piece.now c.requires
    (sym c.if-is_empty.ensures)
    _ c.in_ok-fill.ensures.watched.limits c.in_ok-fill.ensures.filled

pub returns-clause-put : goal.returns-clause-put
returns-clause-put g c = all_put _ c.args.file.now c.args.size c.args.offset c.args.piece.now c.requires
    (sym c.if-is_empty.ensures)
    ((goal.FileServer-dyn g (c.fill.new.server.vtable, c.fill.new.server.value)).state c.fill.new.server.value)
    c.in_ok-fill.ensures.watched.limits c.in_ok-fill.ensures.filled _ c.in_ok-write_all.ensures.put
