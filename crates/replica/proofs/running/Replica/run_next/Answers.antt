use Rattle.std.proofs.Common.{refl, ◌+◌}
use Rattle.replica.proofs.Answering.{mid_stands, mid_over, mid_later, passed_is}
use Rattle.replica.proofs.running.Replica.run_next.Goals as goal

pub check-requires-clause-stands : goal.check-requires-clause-stands
check-requires-clause-stands g c = mid_stands c.args.limits.now c.requires.within c.args.time c.args.call.now _ _ _
    c.answer.new.table c.args.self.now c.answer.new.saver c.in_ok-word.word c.in_ok-word.ensures.answers
    (c.args.self.now.place + 1) refl c.requires.stands

pub check-requires-clause-over : goal.check-requires-clause-over
check-requires-clause-over g c = mid_over c.args.limits.now c.requires.within c.args.time c.args.call.now _ _ _
    c.answer.new.table c.args.self.now c.answer.new.saver c.in_ok-word.word c.in_ok-word.ensures.answers
    (c.args.self.now.place + 1) refl c.requires.stands c.requires.over

pub check-requires-clause-later : goal.check-requires-clause-later
check-requires-clause-later g c = mid_later c.args.limits.now c.requires.within c.args.time c.args.call.now _ _ _
    c.answer.new.table c.args.self.now c.answer.new.saver c.in_ok-word.word c.in_ok-word.ensures.answers
    (c.args.self.now.place + 1) refl c.requires.stands c.requires.over

pub returns-clause-passed : goal.returns-clause-passed
returns-clause-passed g c = passed_is c.args.limits.now c.requires.within c.args.time c.args.call.now _ _ _
    c.answer.new.table c.args.self.now c.answer.new.saver c.in_ok-word.word c.in_ok-word.ensures.answers
    (c.args.self.now.place + 1) refl _ c.in_ok-root.ensures.same c.check.new.self _ c.in_ok-root.ensures.checked
    refl c.in_ok-spoken.ensures c.in_ok-root.ensures.root
