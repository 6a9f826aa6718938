use Rattle.dict_treap.specs.Treap.{part}
use Rattle.pruned_list.specs.PrunedList.{levels}
use Rattle.tree_prune.proofs.list.+put_removal.Given as goal

abbrev pub decreases-put_removal : goal.decreases-put_removal
decreases-put_removal g l = levels (part l.at)
