use Rattle.hall_server.proofs.Places.{sight_listed}
use Rattle.hall_server.proofs.laws.walls.Goals as goal

pub returns : goal.returns
returns c = sight_listed
