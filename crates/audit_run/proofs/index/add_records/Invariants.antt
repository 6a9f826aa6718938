use Rattle.std.proofs.Common.{◌≡◌, ◌++◌, map, take}
use Rattle.audit_run.proofs.index.add_records.Given as goal

abbrev pub invariant-loop-took : goal.invariant-loop-took
invariant-loop-took l = map (λ r. r.now) l.out.items ≡ map (λ r. r.now) l.initial.out.items ++ take l.took-index l.tooks
