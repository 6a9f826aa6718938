use Rattle.std.proofs.Common.{◌+◌}
use Rattle.dict_treap.specs.Treap.{part}
use Rattle.pruned_list.specs.PrunedList.{levels}
use Rattle.tree_prune.proofs.list.+put_joined.Given as goal

abbrev pub decreases-put_joined : goal.decreases-put_joined
decreases-put_joined g l = levels (part l.smaller) + levels (part l.greater)
