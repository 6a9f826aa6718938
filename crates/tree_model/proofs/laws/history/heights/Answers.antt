use Rattle.tree_model.proofs.HistoryLaws.{depth-fits, depth-least}
use Rattle.tree_model.proofs.laws.history.heights.Goals as goal

pub returns : goal.returns
returns c = record { enough = depth-fits; least = depth-least }
