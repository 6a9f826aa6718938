use Rattle.std.proofs.Common.{◌≡◌, ◌-◌, List, fold, map, take, Some}
use Rattle.std.specs.Prelude.{slice_get}
use Rattle.world_book.specs.declared.took.Took.{Took}
use Rattle.world_audit.specs.Comparisons.{needed, visit}
use Rattle.audit_run.specs.Table.{AreDone}
use Rattle.audit_run.proofs.order.+visit.Given as goal

abbrev pub decreases-visit : goal.decreases-visit
decreases-visit l = l.fuel

abbrev pub invariant-loop-j : goal.invariant-loop-j
invariant-loop-j l = (r : Took) (done : List Took) → slice_get (map (λ x. x.now) l.index.records.items) l.i ≡ Some r
    → AreDone (map (λ x. x.now) l.index.records.items) l.initial.order.items done
    → AreDone (map (λ x. x.now) l.index.records.items) l.order.items
    (fold (visit (l.fuel - 1) l.index.world.now) done (take l.j-index (needed l.index.world.now r)))
