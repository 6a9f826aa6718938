use Rattle.dict_treap.specs.Treap.{part}
use Rattle.pruned_list.specs.PrunedList.{levels}
use Rattle.dict_treap.proofs.changes.+are_smaller.Given as goal

abbrev pub decreases-are_smaller : goal.decreases-are_smaller
decreases-are_smaller g l = levels (part l.at)
