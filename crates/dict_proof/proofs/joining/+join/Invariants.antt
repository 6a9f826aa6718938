use Rattle.std.proofs.Common.{◌+◌}
use Rattle.pruned_list.specs.PrunedList.{levels}
use Rattle.dict_proof.specs.View.{part_view}
use Rattle.dict_proof.proofs.joining.+join.Given as goal

abbrev pub decreases-join : goal.decreases-join
decreases-join l = levels (part_view l.smaller) + levels (part_view l.greater)
