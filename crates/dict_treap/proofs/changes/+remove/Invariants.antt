use Rattle.dict_treap.specs.Treap.{part}
use Rattle.pruned_list.specs.PrunedList.{levels}
use Rattle.dict_treap.proofs.changes.+remove.Given as goal

abbrev pub decreases-remove : goal.decreases-remove
decreases-remove g l = levels (part l.at)
