use Rattle.key_graph.proofs.Runs.{reach}
use Rattle.key_graph.proofs.laws.reach.Goals as goal

pub returns : goal.returns
returns c = reach
