use Rattle.std.proofs.Common.{◌≡◌, ◌+◌, ◌≤◌, ◌∷◌, ℕ, List, length, take, drop, refl, subst, arith}
use Rattle.script_read.specs.declared.script.ScriptSession.{ScriptSession}
use Rattle.run_phases.specs.Phases.{CanPlay, Played, run_view}
use Rattle.run_phases.proofs.Embarking.{take-whole}
use Rattle.run_phases.proofs.Phasing.{played-nothing}
use Rattle.run_phases.proofs.Repeating.{can-first, can-rest, keeps-itself, keeps-more, longer-phases, next-phases, number-at, one-more}
use Rattle.run_phases.proofs.playing.play.Goals as goal

pub loop-sessions-init : goal.loop-sessions-init
loop-sessions-init g c = record {
  played = λ u users one.
      played-nothing g.D.Digester.digest_of (u ∷ users) (run_view g.W.Wire.view c.args.run.now) c.requires.unseen;
  keeps = keeps-itself g.D.Digester.digest_of g.W.Wire.view c.args.server.now c.args.run.now c.requires.can.members;
  can = c.requires.can;
  number = refl;
}

pub play_phase-requires-clause-can : goal.play_phase-requires-clause-can
play_phase-requires-clause-can g c κs within =
    let d = g.D.Digester.digest_of in
    let i = c.loop-sessions.sessions-index in
    let next = next-phases c.args.phases.now c.as_slice-sessions-items.result.now i c.sessions-item.result
    c.as_slice.result.now c.as_slice-sessions-items.ensures c.loop-sessions-test.true c.sessions-item.is
    c.as_slice.ensures in
    can-first d g.W.Wire.view c.args.server.now c.loop-sessions.run c.as_slice.result.now
    (drop (i + 1) c.args.phases.now)
    (subst (CanPlay d c.args.server.now c.loop-sessions.run) next c.loop-sessions.invariant.can)

pub loop-sessions-preserved : goal.loop-sessions-preserved
loop-sessions-preserved g c =
    let d = g.D.Digester.digest_of in
    let view = g.W.Wire.view in
    let server = c.args.server.now in
    let start = c.args.run.now in
    let run = c.loop-sessions.run in
    let now = c.play_phase.new.run in
    let i = c.loop-sessions.sessions-index in
    let phases = c.args.phases.now in
    let items = c.as_slice-sessions-items.result.now in
    let same = c.as_slice-sessions-items.ensures in
    let s = c.sessions-item.result in
    let t = c.as_slice.result.now in
    let lt = c.loop-sessions-test.true in
    let is = c.sessions-item.is in
    let this = c.as_slice.ensures in
    let number = c.loop-sessions.invariant.number in
    let e = c.in_ok-play_phase.ensures in
    let can = subst (CanPlay d server run) (next-phases phases items i s t same lt is this) c.loop-sessions.invariant.can
    in
    record {
      played = one-more d view server start run now (take i phases) (take (i + 1) phases) t c.loop-sessions.phase
          (number-at phases items i c.loop-sessions.phase same lt number)
          (longer-phases phases items i s t same lt is this) c.loop-sessions.invariant.keeps
          c.loop-sessions.invariant.played e.played;
      keeps = keeps-more d view server start run now c.loop-sessions.invariant.keeps e.users;
      can = can-rest d view server run now c.loop-sessions.phase t (drop (i + 1) phases) can e.users e.played;
      number = omega (number, arith);
    }

pub returns-clause-played : goal.returns-clause-played
returns-clause-played g c =
    let d = g.D.Digester.digest_of in
    let view = g.W.Wire.view in
    let start = run_view view c.args.run.now in
    let now = run_view view c.loop-sessions.run in
    let phases = c.args.phases.now in
    let i = c.loop-sessions.sessions-index in
    let whole = take-whole phases i
    (subst (λ (l : List (List ScriptSession)). length l ≤ i) c.as_slice-sessions-items.ensures
    c.loop-sessions-test.false) in
    λ u users one. subst (λ (ps : List (List ScriptSession)). Played d (u ∷ users) 1 ps start now) whole
    (c.loop-sessions.invariant.played u users one)
