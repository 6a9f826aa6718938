use Rattle.std.proofs.Common.{◌≡◌, ◌-◌, length}
use Rattle.check_rules.specs.Shown.{leaves_among}
use Rattle.check_core.proofs.shown.shown_count.Given as goal

abbrev pub invariant-loop-k : goal.invariant-loop-k
invariant-loop-k g l = l.count ≡ length (leaves_among l.tree.tree l.tree.size l.from (l.k - l.from))
