use Rattle.dict_treap.specs.Treap.{part}
use Rattle.pruned_list.specs.PrunedList.{levels}
use Rattle.dict_treap.proofs.changes.+set_next.Given as goal

abbrev pub decreases-set_next : goal.decreases-set_next
decreases-set_next g l = levels (part l.at)
