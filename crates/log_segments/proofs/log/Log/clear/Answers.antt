use Rattle.std.proofs.Common.{refl}
use Rattle.log_segments.proofs.Copies.{cleared}
use Rattle.log_segments.proofs.log.Log.clear.Goals as goal

pub returns-clause-log : goal.returns-clause-log
returns-clause-log g c =
    rw (c.in_ok-write-2.ensures.size, c.in_ok-write.ensures.size)
    (cleared (g.M.Medium.content c.args.self.now.medium) (g.M.Medium.content c.write.new.self)
    (g.M.Medium.content c.write-2.new.self) _ c.new.result _
    c.half-half.ensures.few c.requires.half c.new.ensures refl
    (record { at = c.in_ok-write.ensures.bytes; others = c.in_ok-write.ensures.others })
    (record { at = c.in_ok-write-2.ensures.bytes; others = c.in_ok-write-2.ensures.others })).log

pub returns-clause-live : goal.returns-clause-live
returns-clause-live g c =
    rw (c.in_ok-write-2.ensures.size, c.in_ok-write.ensures.size)
    (cleared (g.M.Medium.content c.args.self.now.medium) (g.M.Medium.content c.write.new.self)
    (g.M.Medium.content c.write-2.new.self) _ c.new.result _
    c.half-half.ensures.few c.requires.half c.new.ensures refl
    (record { at = c.in_ok-write.ensures.bytes; others = c.in_ok-write.ensures.others })
    (record { at = c.in_ok-write-2.ensures.bytes; others = c.in_ok-write-2.ensures.others })).live_are
