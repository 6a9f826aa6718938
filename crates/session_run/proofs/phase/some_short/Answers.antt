use Rattle.std.proofs.Common.{◌≡◌, false, true}
use Rattle.session_run.specs.declared.lane.Lane.{Lane}
use Rattle.session_run.proofs.Looping.{any-at, each-more, each-all}
use Rattle.session_run.proofs.phase.some_short.Goals as goal

pub returns-then-lane-clause-some : goal.returns-then-lane-clause-some
returns-then-lane-clause-some g c = λ yes.
    any-at (λ (l : Lane g.row.D.Denot g.row.W.Denot). l.short ≡ true) c.deref-lane-items.result.now
    c.args.lanes.now.items c.loop-lane.lane-index c.lane-item.result c.deref-lane-items.ensures.value
    c.loop-lane-test.true c.lane-item.is c.if-lane.true

pub loop-lane-preserved : goal.loop-lane-preserved
loop-lane-preserved g c =
    each-more (λ (l : Lane g.row.D.Denot g.row.W.Denot). l.short ≡ false) c.deref-lane-items.result.now
    c.args.lanes.now.items c.loop-lane.lane-index c.lane-item.result c.deref-lane-items.ensures.value
    c.loop-lane-test.true c.lane-item.is c.if-lane.false c.loop-lane.invariant

pub returns-clause-none : goal.returns-clause-none
returns-clause-none g c = λ no.
    each-all (λ (l : Lane g.row.D.Denot g.row.W.Denot). l.short ≡ false) c.deref-lane-items.result.now
    c.args.lanes.now.items c.loop-lane.lane-index c.deref-lane-items.ensures.value c.loop-lane-test.false
    c.loop-lane.invariant
