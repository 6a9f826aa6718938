use Rattle.std.proofs.Common.{◌≡◌, length}
use Rattle.audit_run.specs.Table.{AreUnknown}
use Rattle.audit_run.proofs.stories.no_rows.Given as goal

abbrev pub invariant-loop : goal.invariant-loop
invariant-loop l = (length l.rows.items ≡ l.counter) × AreUnknown l.rows.items
