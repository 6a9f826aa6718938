use Rattle.std.proofs.Common.{◌+◌, ◌*◌}
use Rattle.dict_treap.specs.Treap.{part}
use Rattle.pruned_list.specs.PrunedList.{levels}
use Rattle.tree_prune.proofs.list.+kept.Given as goal

abbrev pub decreases-kept_part : goal.decreases-kept_part
decreases-kept_part g l = 2 * levels (part l.at) + 1

abbrev pub decreases-kept_list : goal.decreases-kept_list
decreases-kept_list g l = 2 * levels l.node.now
