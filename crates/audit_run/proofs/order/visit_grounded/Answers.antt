use Rattle.std.proofs.Common.{◌∙◌, ap, subst, arith, map, length}
use Rattle.std.proofs.lemmas.List.{length-map}
use Rattle.world_audit.specs.Comparisons.{visit}
use Rattle.audit_run.specs.Table.{AreDone}
use Rattle.audit_run.proofs.Ordering.{passed-by, same-record, seen-at, visited}
use Rattle.audit_run.proofs.order.visit_grounded.Goals as goal

pub has_place-requires : goal.has_place-requires
has_place-requires c =
    let all = ap length c.requires.index.all in
    let many = length-map c.args.index.now.records.items (λ r. r.now) in
    let count = c.requires.places.1.count in
    let within = c.requires.within in omega arith

pub returns-then-not-has_place : goal.returns-then-not-has_place
returns-then-not-has_place c r done at picked =
    let R = map (λ x. x.now) c.args.index.now.records.items in
    passed-by c.args.index.now.world.now R c.args.order.now.items done r
    (seen-at c.args.index.now.world.now R c.requires.index c.requires.places.0 c.args.places.now c.args.i r c.has_place.result
    c.requires.places.1 at c.has_place.ensures ∙ c.if-not-has_place.true) picked

pub returns : goal.returns
returns c r done at picked =
    let R = map (λ x. x.now) c.args.index.now.records.items in
    let same = same-record (λ x. x.now) c.args.index.now.records.items c.args.i c.index.result.now r c.requires.within c.index.ensures at in
    visited c.args.index.now.world.now R c.visit.new.order.items done r
    (seen-at c.args.index.now.world.now R c.requires.index c.requires.places.0 c.args.places.now c.args.i r c.has_place.result
    c.requires.places.1 at c.has_place.ensures ∙ c.if-not-has_place.false)
    (subst (λ n. AreDone R c.visit.new.order.items (visit n c.args.index.now.world.now done r)) (ap (λ t. t.size) same)
    (c.in_ok-visit.ensures r done at picked))
