use Rattle.log_segments.proofs.Blocks.{on_err}
use Rattle.log_segments.proofs.Puts.{append_live, torn_live}
use Rattle.log_segments.proofs.log.Log.put.Goals as goal

pub returns-in_err-append-clause-torn : goal.returns-in_err-append-clause-torn
returns-in_err-append-clause-torn g c =
    let content = g.M.Medium.content in
    rw (c.in_err-append.ensures.size, c.in_ok-make_room.ensures.size) (on_err c.from_residual-in_err-append.result _
    (torn_live (content c.args.self.now.medium)
    (content c.make_room.new.self.medium) _ _ (rw
    (c.in_err-append.ensures.size, c.in_ok-make_room.ensures.size) at c.in_err-append.ensures.torn)
    (rw c.in_ok-make_room.ensures.size at c.in_ok-make_room.ensures.live)))

pub returns-clause-live : goal.returns-clause-live
returns-clause-live g c =
    let content = g.M.Medium.content in
    rw (c.in_ok-append.ensures.size, c.in_ok-make_room.ensures.size) (append_live (content c.args.self.now.medium)
    (content c.make_room.new.self.medium) _ _
    c.args.block.now (rw (c.in_ok-append.ensures.size, c.in_ok-make_room.ensures.size) at
    c.in_ok-append.ensures.records)
    (rw c.in_ok-make_room.ensures.size at c.in_ok-make_room.ensures.live))
