use Rattle.std.proofs.Common.{◌∙◌, sym, subst, map, List, None}
use Rattle.world_audit.specs.Comparisons.{Comparison, order, record_compared}
use Rattle.world_audit.specs.Ready.{AreReady}
use Rattle.audit_run.specs.Compared.{Compared}
use Rattle.audit_run.proofs.Comparing.{many-begin, many-on, many-over, many-ready, many-stop}
use Rattle.audit_run.proofs.Ordering.{all-is, order-at, order-long, order-record, place-at}
use Rattle.audit_run.proofs.record.first_clash.Goals as goal

pub loop-i-init : goal.loop-i-init
loop-i-init g c =
    many-begin g.D.Digester.digest_of (record_compared c.args.index.now.world.now) (order c.args.index.now.world.now)
    (subst (AreReady g.D.Digester.digest_of) (all-is c.args.index.now.world.now) c.requires.ready)

pub place_clash-requires-clause-within : goal.place_clash-requires-clause-within
place_clash-requires-clause-within g c =
    order-at (λ x. x.now) c.args.index.now.records.items c.args.places.now (order c.args.index.now.world.now) c.loop-i.i-index c.requires.order c.loop-i-test.true 0

pub place_clash-requires-clause-ready : goal.place_clash-requires-clause-ready
place_clash-requires-clause-ready g c r at =
    let it = order-record (map (λ x. x.now) c.args.index.now.records.items) c.args.places.now (order c.args.index.now.world.now) c.loop-i.i-index 0 r c.requires.order c.loop-i-test.true at in
    many-ready g.D.Digester.digest_of (record_compared c.args.index.now.world.now) c.loop-i.i-index (order c.args.index.now.world.now) r it.0 it.1
    c.loop-i.invariant

pub returns-then-is_some : goal.returns-then-is_some
returns-then-is_some g c =
    let it = place-at (map (λ x. x.now) c.args.index.now.records.items) c.args.places.now (order c.args.index.now.world.now) c.loop-i.i-index 0 c.requires.order c.loop-i-test.true in
    let on = order-record (map (λ x. x.now) c.args.index.now.records.items) c.args.places.now (order c.args.index.now.world.now) c.loop-i.i-index 0 it.0 c.requires.order c.loop-i-test.true it.1 in
    subst (λ (cs : List Comparison). Compared g.D.Digester.digest_of cs c.in_ok-clash.clash) (sym (all-is c.args.index.now.world.now))
    (many-stop g.D.Digester.digest_of (record_compared c.args.index.now.world.now) c.loop-i.i-index (order c.args.index.now.world.now) it.0
    c.in_ok-clash.clash on.0 on.1 c.loop-i.invariant (c.in_ok-clash.ensures it.0 it.1) (sym c.is_some.ensures ∙ c.if-is_some.true))

pub loop-i-preserved : goal.loop-i-preserved
loop-i-preserved g c =
    let it = place-at (map (λ x. x.now) c.args.index.now.records.items) c.args.places.now (order c.args.index.now.world.now) c.loop-i.i-index 0 c.requires.order c.loop-i-test.true in
    let on = order-record (map (λ x. x.now) c.args.index.now.records.items) c.args.places.now (order c.args.index.now.world.now) c.loop-i.i-index 0 it.0 c.requires.order c.loop-i-test.true it.1 in
    many-on g.D.Digester.digest_of (record_compared c.args.index.now.world.now) c.loop-i.i-index (order c.args.index.now.world.now) it.0
    c.in_ok-clash.clash on.0 on.1 c.loop-i.invariant (c.in_ok-clash.ensures it.0 it.1) (sym c.is_some.ensures ∙ c.if-is_some.false)

pub returns : goal.returns
returns g c =
    subst (λ (cs : List Comparison). Compared g.D.Digester.digest_of cs None) (sym (all-is c.args.index.now.world.now))
    (many-over g.D.Digester.digest_of (record_compared c.args.index.now.world.now) c.loop-i.i-index (order c.args.index.now.world.now)
    (order-long (map (λ x. x.now) c.args.index.now.records.items) c.args.places.now (order c.args.index.now.world.now) c.loop-i.i-index c.requires.order c.loop-i-test.false) c.loop-i.invariant)
