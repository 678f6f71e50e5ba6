use Rattle.asking.proofs.Turns.{others-keep-room}
use Rattle.asking.proofs.laws.others_keep_room.Goals as goal

pub returns : goal.returns
returns c = others-keep-room
