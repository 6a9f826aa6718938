use Rattle.std.proofs.Common.{◌≡◌}
use Rattle.audit_run.proofs.stories.start.Given as goal

abbrev pub invariant-loop-i : goal.invariant-loop-i
invariant-loop-i g l = l.lines.items ≡ l.initial.lines.items
