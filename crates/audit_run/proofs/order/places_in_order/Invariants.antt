use Rattle.std.proofs.Common.{List, fold, map, take, []}
use Rattle.std.specs.Prelude.{filter}
use Rattle.world_book.specs.declared.took.Took.{Took}
use Rattle.world_audit.specs.Comparisons.{visit}
use Rattle.audit_run.specs.Answer.{has_story}
use Rattle.audit_run.specs.Table.{AreDone}
use Rattle.audit_run.proofs.order.places_in_order.Given as goal

abbrev pub invariant-loop-i : goal.invariant-loop-i
invariant-loop-i l = AreDone (map (λ x. x.now) l.index.records.items) l.order.items
    (fold (λ (done : List Took) (r : Took). visit r.size l.index.world.now done r) []
    (filter (has_story l.index.world.now) (take l.i (map (λ x. x.now) l.index.records.items))))
