use Rattle.std.proofs.Common.{drop}
use Rattle.world_book.specs.declared.took.Took.{Took}
use Rattle.audit_run.specs.Unsigned.{IsSearched}
use Rattle.audit_run.proofs.Searching.{Rest}
use Rattle.audit_run.proofs.unsigned.unsigned_among.Given as goal

abbrev pub invariant-loop-took : goal.invariant-loop-took
invariant-loop-took l = Rest (IsSearched l.world) (λ (r : Took). r.leaves) (drop l.took-index l.records) l.records
