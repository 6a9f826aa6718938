use Rattle.wall_law.proofs.Owners.{law-fits}
use Rattle.wall_law.proofs.laws.changes.Goals as goal

pub returns : goal.returns
returns c = law-fits
