use Rattle.client_core.proofs.Walls.{asked-side, learnt-side}
use Rattle.client_core.proofs.laws.sides.Goals as goal

pub returns : goal.returns
returns c = record { asked = asked-side; learnt = learnt-side }
