use Rattle.dict_treap.specs.Treap.{part}
use Rattle.pruned_list.specs.PrunedList.{levels}
use Rattle.dict_treap.proofs.changes.+find.Given as goal

abbrev pub decreases-find : goal.decreases-find
decreases-find g l = levels (part l.at)
