use Rattle.std.proofs.Common.{take}
use Rattle.std.specs.Prelude.{All}
use Rattle.tree_model.specs.AccessList.{IsInRange}
use Rattle.tree_model.proofs.laws.access_list.ranges.Given as goal

abbrev pub invariant-loop-entry : goal.invariant-loop-entry
invariant-loop-entry l = All IsInRange (take l.entry-index l.entries)
