use Rattle.std.proofs.Common.{◌+◌}
use Rattle.dict_treap.specs.Treap.{part}
use Rattle.pruned_list.specs.PrunedList.{levels}
use Rattle.dict_treap.proofs.changes.+join.Given as goal

abbrev pub decreases-join : goal.decreases-join
decreases-join g l = levels (part l.left) + levels (part l.right)
