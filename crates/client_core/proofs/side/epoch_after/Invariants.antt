use Rattle.std.proofs.Common.{◌≡◌, drop}
use Rattle.client_core.specs.Taking.{epoch_after}
use Rattle.client_core.proofs.side.epoch_after.Given as goal

abbrev pub invariant-loop-leaf : goal.invariant-loop-leaf
invariant-loop-leaf l = epoch_after l.last (drop l.leaf-index l.leaves) ≡ epoch_after l.epoch l.leaves
