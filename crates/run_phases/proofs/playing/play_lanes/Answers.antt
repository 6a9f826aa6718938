use Rattle.run_phases.specs.Phases.{KeepsUsers, Left, run_view}
use Rattle.run_phases.specs.Tasks.{tasks_in}
use Rattle.session_laws.specs.Runs.{PhaseRun}
use Rattle.run_phases.proofs.Launching.{all-ready, few-lanes}
use Rattle.run_phases.proofs.Sailing.{keeps-of, ok-so, phase-of}
use Rattle.run_phases.proofs.playing.play_lanes.Goals as goal

pub run_phase-requires-clause-few : goal.run_phase-requires-clause-few
run_phase-requires-clause-few g c κs within =
    few-lanes g.D.Digester.digest_of c.args.server.now c.args.sessions.now c.args.run.now c.enter.new.run
    c.in_ok-lanes.lanes.items c.requires.members c.in_ok-lanes.ensures c.requires.sessions

pub run_phase-requires-clause-ready : goal.run_phase-requires-clause-ready
run_phase-requires-clause-ready g c κs within =
    all-ready g.D.Digester.digest_of c.args.server.now c.args.sessions.now c.args.run.now c.enter.new.run
    c.in_ok-lanes.lanes.items c.requires.members c.in_ok-lanes.ensures c.requires.sessions c.requires.can

pub returns-clause-ran : goal.returns-clause-ran
returns-clause-ran g c =
    let d = g.D.Digester.digest_of in
    let view = g.W.Wire.view in
    let server = c.args.server.now in
    let sessions = c.args.sessions.now in
    let before = c.args.run.now in
    let mid = c.enter.new.run in
    let now = c.leave.new.run in
    let befores = c.in_ok-lanes.lanes.items in
    let nows = c.run_phase.new.lanes.items in
    let done = c.in_ok-run_phase.ensures in
    ok-so (Left mid now nows) (PhaseRun d (run_view view before) (run_view view now) (tasks_in c.args.phase 1 sessions))
    c.leave.result c.leave.ensures
    (phase-of d view server c.args.phase sessions before mid now befores nows c.requires.members c.in_ok-lanes.ensures
    done.count done.lanes done.ok)

pub returns-clause-users : goal.returns-clause-users
returns-clause-users g c =
    let d = g.D.Digester.digest_of in
    let view = g.W.Wire.view in
    let server = c.args.server.now in
    let sessions = c.args.sessions.now in
    let before = c.args.run.now in
    let mid = c.enter.new.run in
    let now = c.leave.new.run in
    let befores = c.in_ok-lanes.lanes.items in
    let nows = c.run_phase.new.lanes.items in
    let done = c.in_ok-run_phase.ensures in
    ok-so (Left mid now nows) (KeepsUsers d server before now) c.leave.result c.leave.ensures
    (keeps-of d view server c.args.phase sessions before mid now befores nows c.requires.members c.in_ok-lanes.ensures
    done.count done.lanes done.ok)
