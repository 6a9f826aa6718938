use Rattle.audit_run.proofs.Owned.{NoneBefore}
use Rattle.audit_run.proofs.unsigned.is_among.Given as goal

abbrev pub invariant-loop-one : goal.invariant-loop-one
invariant-loop-one l = NoneBefore l.signed l.op l.one-index
