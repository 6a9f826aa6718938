use Rattle.std.proofs.Common.{◌≡◌, reverse, take}
use Rattle.key_graph.specs.KeyTree.{holder}
use Rattle.key_graph.proofs.history.holder.Given as goal

abbrev pub invariant-loop-change : goal.invariant-loop-change
invariant-loop-change l = l.found ≡ holder (reverse (take l.change-index l.changes)) l.slot
