use Rattle.std.proofs.Common.{[], subst, arith, map, fold, take}
use Rattle.std.specs.Prelude.{filter}
use Rattle.std.proofs.lemmas.List.{length-map}
use Rattle.audit_run.specs.Answer.{has_story}
use Rattle.audit_run.specs.Table.{AreDone, ArePicked}
use Rattle.audit_run.proofs.Ordering.{all-next, order-is, visits}
use Rattle.audit_run.proofs.Reaching.{there-at}
use Rattle.audit_run.proofs.order.places_in_order.Goals as goal

pub visit_grounded-requires-clause-within : goal.visit_grounded-requires-clause-within
visit_grounded-requires-clause-within c =
    let less = c.loop-i-test.true in let e = c.len-i-end.ensures in let ok = c.args.index.now.records.ok.0 in omega arith

pub visit_grounded-requires-clause-done : goal.visit_grounded-requires-clause-done
visit_grounded-requires-clause-done c =
    (fold (visits c.args.index.now.world.now) [] (filter (has_story c.args.index.now.world.now) (take c.loop-i.i (map (λ x. x.now) c.args.index.now.records.items))), c.loop-i.invariant)

pub loop-i-preserved : goal.loop-i-preserved
loop-i-preserved c =
    let R = map (λ x. x.now) c.args.index.now.records.items in
    let w = c.args.index.now.world.now in
    let less = c.loop-i-test.true in
    let e = c.len-i-end.ensures in
    let ok = c.args.index.now.records.ok.0 in
    let many = length-map c.args.index.now.records.items (λ x. x.now) in
    let it = there-at R c.loop-i.i (omega arith) in
    subst (AreDone R c.visit_grounded.new.order.items) (all-next w R c.loop-i.i it.0 it.1)
    (c.in_ok-visit_grounded.ensures it.0 (fold (visits w) [] (filter (has_story w) (take c.loop-i.i R))) it.1 c.loop-i.invariant)

pub returns : goal.returns
returns c =
    let R = map (λ x. x.now) c.args.index.now.records.items in
    let w = c.args.index.now.world.now in
    let past = c.loop-i-test.false in
    let e = c.len-i-end.ensures in
    let ok = c.args.index.now.records.ok.0 in
    let many = length-map c.args.index.now.records.items (λ x. x.now) in
    subst (ArePicked R c.loop-i.order.items) (order-is w R c.loop-i.i c.requires.index.all (omega arith)) c.loop-i.invariant
