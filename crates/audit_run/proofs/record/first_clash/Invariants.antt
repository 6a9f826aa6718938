use Rattle.world_audit.specs.Comparisons.{order, record_compared}
use Rattle.audit_run.proofs.Comparing.{ManyRest}
use Rattle.audit_run.proofs.record.first_clash.Given as goal

abbrev pub invariant-loop-i : goal.invariant-loop-i
invariant-loop-i g l = ManyRest g.D.Digester.digest_of (record_compared l.index.world.now) l.i-index (order l.index.world.now)
