use Rattle.std.proofs.Common.{◌≡◌, ◌+◌, map, drop}
use Rattle.dict_proof.specs.View.{list_view}
use Rattle.world_audit.specs.Comparisons.{dicts_compared}
use Rattle.audit_run.proofs.Comparing.{Remains}
use Rattle.audit_run.proofs.clashes.states_clash.Given as goal

abbrev pub invariant-loop-list : goal.invariant-loop-list
invariant-loop-list g l = (l.k ≡ l.from + l.list-index)
    × Remains g.D.Digester.digest_of
    (dicts_compared l.line.owner l.line.leaves l.k (map list_view (drop l.list-index l.dicts)))
    (dicts_compared l.line.owner l.line.leaves l.from (map list_view l.dicts))
