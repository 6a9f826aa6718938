use Rattle.std.proofs.Common.{◌≡◌, ◌++◌, ◌∷◌, [], List, sym, subst, take}
use Rattle.script_read.specs.declared.script.ScriptSession.{ScriptSession}
use Rattle.session_run.specs.declared.lane.Lane.{Lane}
use Rattle.run_phases.specs.Phases.{Entered}
use Rattle.run_phases.proofs.Boarding.{entered-more, entered-nothing}
use Rattle.run_phases.proofs.Embarking.{next-even, next-known, next-wire, take-more, take-whole}
use Rattle.run_phases.proofs.Launching.{once-before}
use Rattle.run_phases.proofs.entering.enter.Goals as goal

pub loop-session-init : goal.loop-session-init
loop-session-init g c =
    let d = g.D.Digester.digest_of in
    subst (λ (l : List (Lane g.row.D.Denot g.row.W.Denot)). Entered d c.args.server.now [] c.args.run.now
    c.args.run.now l) (sym c.new-lanes.ensures.items)
    (entered-nothing d c.args.server.now c.args.run.now c.requires.members)

pub lane_for-requires-clause-known : goal.lane_for-requires-clause-known
lane_for-requires-clause-known g c =
    next-known g.D.Digester.digest_of c.args.server.now c.args.sessions.now c.args.run.now c.loop-session.run
    c.loop-session.lanes.items c.loop-session.session-index c.session-item.result c.requires.members
    c.requires.sessions c.loop-session.invariant c.loop-session-test.true c.session-item.is

pub lane_for-requires-clause-even : goal.lane_for-requires-clause-even
lane_for-requires-clause-even g c =
    next-even g.D.Digester.digest_of c.args.server.now c.args.sessions.now c.args.run.now c.loop-session.run
    c.loop-session.lanes.items c.loop-session.session-index c.session-item.result c.requires.members
    c.requires.sessions c.loop-session.invariant c.loop-session-test.true c.session-item.is

pub lane_for-requires-clause-wires : goal.lane_for-requires-clause-wires
lane_for-requires-clause-wires g c =
    next-wire g.D.Digester.digest_of c.args.server.now c.args.sessions.now c.args.run.now c.loop-session.run
    c.loop-session.lanes.items c.loop-session.session-index c.session-item.result c.requires.members
    c.requires.sessions c.loop-session.invariant c.loop-session-test.true c.session-item.is c.requires.wires

pub loop-session-preserved : goal.loop-session-preserved
loop-session-preserved g c =
    let d = g.D.Digester.digest_of in
    let i = c.loop-session.session-index in
    let s = c.session-item.result in
    let done = take i c.args.sessions.now in
    let more = entered-more d c.args.server.now done c.args.run.now c.loop-session.run c.lane_for.new.run
    c.loop-session.lanes.items s c.in_ok-lane.lane (once-before d c.args.server.now c.args.run.now c.requires.members)
    c.loop-session.invariant c.in_ok-lane.ensures in
    subst (λ (ss : List ScriptSession). Entered d c.args.server.now ss c.args.run.now c.lane_for.new.run
    c.push.new.self.items) (sym (take-more c.args.sessions.now i s c.loop-session-test.true c.session-item.is))
    (subst (λ (l : List (Lane g.row.D.Denot g.row.W.Denot)). Entered d c.args.server.now (done ++ s ∷ [])
    c.args.run.now c.lane_for.new.run l) (sym c.in_ok-push.ensures.items) more)

pub returns : goal.returns
returns g c =
    subst (λ (ss : List ScriptSession). Entered g.D.Digester.digest_of c.args.server.now ss c.args.run.now
    c.loop-session.run c.loop-session.lanes.items)
    (take-whole c.args.sessions.now c.loop-session.session-index c.loop-session-test.false) c.loop-session.invariant
