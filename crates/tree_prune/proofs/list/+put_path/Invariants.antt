use Rattle.dict_treap.specs.Treap.{part}
use Rattle.pruned_list.specs.PrunedList.{levels}
use Rattle.tree_prune.proofs.list.+put_path.Given as goal

abbrev pub decreases-put_path : goal.decreases-put_path
decreases-put_path g l = levels (part l.at)
