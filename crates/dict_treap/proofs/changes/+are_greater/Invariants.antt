use Rattle.dict_treap.specs.Treap.{part}
use Rattle.pruned_list.specs.PrunedList.{levels}
use Rattle.dict_treap.proofs.changes.+are_greater.Given as goal

abbrev pub decreases-are_greater : goal.decreases-are_greater
decreases-are_greater g l = levels (part l.at)
