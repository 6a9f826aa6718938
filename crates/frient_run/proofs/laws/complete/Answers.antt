use Rattle.frient_run.proofs.Completing.{complete}
use Rattle.frient_run.proofs.laws.complete.Goals as goal

pub returns : goal.returns
returns c = complete
