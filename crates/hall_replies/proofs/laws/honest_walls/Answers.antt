use Rattle.hall_replies.proofs.Joined.{view-same, wall-same}
use Rattle.hall_replies.proofs.laws.honest_walls.Goals as goal

pub returns : goal.returns
returns c = record { wall = wall-same; view = view-same }
