use Rattle.std.proofs.Common.{map}
use Rattle.audit_run.proofs.Ordering.{NoneSame}
use Rattle.audit_run.proofs.order.is_done.Given as goal

abbrev pub invariant-loop-i : goal.invariant-loop-i
invariant-loop-i l = NoneSame (map (λ r. r.now) l.index.records.items) l.order l.r l.i-index
