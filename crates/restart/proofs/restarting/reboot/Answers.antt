use Rattle.restart.proofs.Relinked.{reboot_broken}
use Rattle.restart.proofs.restarting.reboot.Goals as goal

pub broken-requires : goal.broken-requires
broken-requires g c = reboot_broken _ _ c.in-Err.error c.requires c.in-Err.ensures
