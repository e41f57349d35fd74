use Rattle.log_held.proofs.HeldLaws.{sound_held}
use Rattle.log_held.proofs.laws.sound_is_held.Goals as goal

pub returns : goal.returns
returns c = sound_held
