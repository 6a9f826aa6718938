use Rattle.tree_model.proofs.Priorities.{above-self, above-trans, above-total}
use Rattle.tree_model.proofs.laws.access_list.priorities.Goals as goal

pub returns : goal.returns
returns c = record { irreflexive = above-self; transitive = above-trans; total = above-total }
