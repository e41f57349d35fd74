use Rattle.seats.proofs.Seats.{restarted_live, restarted_rebuilding}
use Rattle.seats.proofs.giving_up.rebuild_at.Goals as goal

pub returns-in-Live-clause-restarted : goal.returns-in-Live-clause-restarted
returns-in-Live-clause-restarted g c =
    restarted_live _ _ _ _ _ _ c.reboot_at.result _ _ c.in-Live.is c.reboot_at.ensures.stands c.reboot_at.ensures.begins

pub returns-in-Rebuilding-clause-restarted : goal.returns-in-Rebuilding-clause-restarted
returns-in-Rebuilding-clause-restarted g c =
    restarted_rebuilding _ _ _ _ _ _ c.reboot_at-in-Rebuilding.result _ _ c.in-Rebuilding.is
    c.reboot_at-in-Rebuilding.ensures.stands c.reboot_at-in-Rebuilding.ensures.begins
