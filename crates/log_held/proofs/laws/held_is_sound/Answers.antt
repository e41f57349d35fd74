use Rattle.log_held.proofs.HeldLaws.{held_sound}
use Rattle.log_held.proofs.laws.held_is_sound.Goals as goal

pub returns : goal.returns
returns c = held_sound
