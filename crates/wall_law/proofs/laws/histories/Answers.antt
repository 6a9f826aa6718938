use Rattle.wall_law.proofs.Histories.{lawful-take, lawful-view}
use Rattle.wall_law.proofs.laws.histories.Goals as goal

pub returns : goal.returns
returns c = record { prefix = lawful-take; view = lawful-view }
