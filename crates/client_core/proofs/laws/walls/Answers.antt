use Rattle.client_core.proofs.Walls.{asked-stays, heard-stays, learnt-stays}
use Rattle.client_core.proofs.laws.walls.Goals as goal

pub returns : goal.returns
returns c = record { asked = asked-stays; heard = heard-stays; learnt = learnt-stays }
