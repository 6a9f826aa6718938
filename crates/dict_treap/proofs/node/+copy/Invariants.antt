use Rattle.dict_treap.specs.Treap.{part}
use Rattle.pruned_list.specs.PrunedList.{levels}
use Rattle.dict_treap.proofs.node.+copy.Given as goal

abbrev pub decreases-copy : goal.decreases-copy
decreases-copy g l = levels (part l.at)
