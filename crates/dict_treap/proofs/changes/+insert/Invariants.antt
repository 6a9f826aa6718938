use Rattle.dict_treap.specs.Treap.{part}
use Rattle.pruned_list.specs.PrunedList.{levels}
use Rattle.dict_treap.proofs.changes.+insert.Given as goal

abbrev pub decreases-insert : goal.decreases-insert
decreases-insert g l = levels (part l.at)
