use Rattle.std.proofs.Common.{◌≡◌, drop}
use Rattle.check_rules.specs.Verdict.{holds}
use Rattle.check_core.proofs.judging.holds.Given as goal

abbrev pub invariant-loop-leaf : goal.invariant-loop-leaf
invariant-loop-leaf l = holds l.leaves l.op ≡ holds (drop l.leaf-index l.leaves) l.op
