use Rattle.key_graph.proofs.Runs.{roots}
use Rattle.key_graph.proofs.laws.roots.Goals as goal

pub returns : goal.returns
returns c = roots
