use Rattle.std.proofs.Common.{◌≡◌, take}
use Rattle.signed_ops.proofs.copies.leaves_copy.Given as goal

abbrev pub invariant-loop-leaf : goal.invariant-loop-leaf
invariant-loop-leaf l = l.same.items ≡ take l.leaf-index l.leaves
