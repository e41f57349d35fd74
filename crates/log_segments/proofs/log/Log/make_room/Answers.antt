use Rattle.log_segments.proofs.Puts.{compact_live, shrink_live}
use Rattle.log_segments.proofs.log.Log.make_room.Goals as goal

pub returns-in_err-compact-clause-live : goal.returns-in_err-compact-clause-live
returns-in_err-compact-clause-live g c =
    rw c.in_err-compact.ensures.size (shrink_live (g.M.Medium.content c.args.self.now.medium) _ _
    (rw c.in_err-compact.ensures.size at c.in_err-compact.ensures.torn))

pub returns-clause-live : goal.returns-clause-live
returns-clause-live g c =
    rw c.in_ok-compact.ensures.size (compact_live (g.M.Medium.content c.args.self.now.medium) _ _
    (rw c.in_ok-compact.ensures.size at c.in_ok-compact.ensures.records))
