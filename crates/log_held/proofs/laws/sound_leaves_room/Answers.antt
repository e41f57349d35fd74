use Rattle.log_held.proofs.RoomLaws.{leaves_room}
use Rattle.log_held.proofs.laws.sound_leaves_room.Goals as goal

pub returns : goal.returns
returns c = leaves_room
