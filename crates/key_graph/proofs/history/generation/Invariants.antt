use Rattle.std.proofs.Common.{◌≡◌, reverse, take}
use Rattle.key_graph.specs.KeyTree.{generation}
use Rattle.key_graph.proofs.history.generation.Given as goal

abbrev pub invariant-loop-change : goal.invariant-loop-change
invariant-loop-change l = l.found ≡ generation l.depth (reverse (take l.change-index l.changes)) l.x
