use Rattle.key_graph.proofs.Runs.{follows}
use Rattle.key_graph.proofs.laws.runs.Goals as goal

pub returns : goal.returns
returns c = follows
