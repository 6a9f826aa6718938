use Rattle.std.proofs.Common.{map}
use Rattle.audit_run.proofs.Records.{NoneAt}
use Rattle.audit_run.proofs.index.Index.find.Given as goal

abbrev pub invariant-loop-i : goal.invariant-loop-i
invariant-loop-i l = NoneAt l.user l.wall l.size (map (λ r. r.now) l.self.records.items) l.i
