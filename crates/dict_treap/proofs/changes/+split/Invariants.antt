use Rattle.dict_treap.specs.Treap.{part}
use Rattle.pruned_list.specs.PrunedList.{levels}
use Rattle.dict_treap.proofs.changes.+split.Given as goal

abbrev pub decreases-split : goal.decreases-split
decreases-split g l = levels (part l.at)
