use Rattle.tree_model.specs.AccessList.{IsRising}
use Rattle.tree_model.proofs.set_tests.list_of.Given as goal

abbrev pub invariant-loop-row : goal.invariant-loop-row
invariant-loop-row l = IsRising l.list.items
