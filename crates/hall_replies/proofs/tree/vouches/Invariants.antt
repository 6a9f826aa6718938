use Rattle.std.proofs.Common.{◌≡◌, drop, take}
use Rattle.check_rules.specs.Verdict.{vouches}
use Rattle.hall_replies.specs.Kept.{leaves_of}
use Rattle.hall_replies.proofs.tree.vouches.Given as goal

abbrev pub invariant-loop-k : goal.invariant-loop-k
invariant-loop-k g l = l.ops.items ≡ vouches (drop l.from (take l.k (leaves_of l.snap)))
