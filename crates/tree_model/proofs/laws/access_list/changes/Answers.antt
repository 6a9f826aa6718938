use Rattle.tree_model.proofs.ListChanges.{rising-changed_set}
use Rattle.tree_model.proofs.laws.access_list.changes.Goals as goal

pub returns : goal.returns
returns c = rising-changed_set
