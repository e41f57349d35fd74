use Rattle.state_transfer.specs.Stand.{next_in}
use Rattle.seats.proofs.Seats.{not_none, was_taken}
use Rattle.seats.proofs.seat.Seat.give.Goals as goal

pub returns-in-Good-clause-answered : goal.returns-in-Good-clause-answered
returns-in-Good-clause-answered c =
    let b = c.in-Rebuilding.rebuild in
    let some = not_none c.next_item.result (next_in b.fetch.stand) c.is_none.result c.next_item.ensures
    c.is_none.ensures c.if-is_none.false in
    was_taken c.args.bytes.now c.args.self.now b c.accept.new.self c.in-Rebuilding.is c.in_ok-accept.ensures.target some
    (c.in_ok-accept.ensures.got (cc (c.in-Good.is)))
