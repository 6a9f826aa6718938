-- The lanes of a phase as one stretch of a run.
use Rattle.std.proofs.Common.{◌≡◌, ◌∙◌, ℕ, zero, suc, ◌+◌, ◌<◌, ◌≤◌, false, List, [], ◌∷◌, ◌++◌, length, length-append, map, refl, sym, ap, subst, append_assoc, arith}
use Rattle.std.specs.Prelude.{slice_index_or}
use Rattle.std.specs.List.{AllByRecursion, AllZip}
use Rattle.std.proofs.lemmas.List.{append-nil}
use Rattle.fr_digest.specs.Digest.{Digest}
use Rattle.fr_edges.specs.Wire.{WireView}
use Rattle.hall_server.specs.declared.server.Server.{Server}
use Rattle.hall_server.specs.Sights.{user_of}
use Rattle.script_read.specs.declared.script.Command.{Command}
use Rattle.script_read.specs.declared.script.ScriptSession.{ScriptSession}
use Rattle.script_form.specs.declared.outcome.Outcome.{Outcome}
use Rattle.session_laws.specs.Doing.{Task, tasks_from, tasks_of}
use Rattle.session_laws.specs.Lanes.{LaneRun, LaneView}
use Rattle.session_laws.specs.Runs.{Enters, IsOf, PhaseRun, RunView, with_lane}
use Rattle.session_laws.proofs.RunLaws.{run-lane, run-nothing, run-then}
use Rattle.session_run.specs.declared.lane.Lane.{Lane}
use Rattle.session_run.specs.Phases.{HasRun}
use Rattle.session_run.specs.Views.{lane_view}
use Rattle.run_phases.specs.Members.{Member, run_of, times, users_of, wire_at}
use Rattle.run_phases.specs.Phases.{HaveRun, IsLaneOf, lane_member, outcomes_in}
use Rattle.run_phases.specs.Tasks.{tasks_in}
use Rattle.run_phases.proofs.Overlays.{lane-there, wire-here}
use Rattle.run_phases.proofs.Tallies.{at-here, tally-append, tally-more, times-here}

tasks-own-from : (phase number user n : ℕ) (commands : List Command)
    → AllByRecursion (IsOf user number) (tasks_from phase number user n commands)
tasks-own-from phase number user n [] = tt
tasks-own-from phase number user n (c ∷ commands) =
    (record { user_is = refl; session_is = refl }, tasks-own-from phase number user (n + 1) commands)

tasks-own : (phase number user : ℕ) (commands : List Command)
    → AllByRecursion (IsOf user number) (tasks_of phase number user commands)
tasks-own phase number user commands = tasks-own-from phase number user 1 commands

module _ {D W : Type 0} (d : Digest) (view : W → WireView) (server : Server D) (phase : ℕ) where
  abbrev wires_of : List (Lane D W) → List WireView
  wires_of lanes = map (λ (l : Lane D W). view l.wire) lanes

  abbrev members_in : List (Lane D W) → List Member
  members_in lanes = map (λ (l : Lane D W). lane_member l) lanes

  -- ---- from each place to all

  pub have-run : (number : ℕ) (befores nows : List (Lane D W)) → length nows ≡ length befores
      → ((i : ℕ) (e : Lane D W) → i < length befores → HasRun d view server phase (number + i)
      (slice_index_or befores i e) (slice_index_or nows i e)) → HaveRun d view server phase number befores nows
  have-run number [] [] long each = tt
  have-run number [] (m ∷ ms) long each = absurd (omega arith)
  have-run number (l ∷ ls) [] long each = absurd (omega arith)
  have-run number (l ∷ ls) (m ∷ ms) long each = (
    subst (λ (n : ℕ). HasRun d view server phase n l m) (let e : number + 0 ≡ number = omega arith in e)
        (each zero l (omega arith)),
    have-run (number + 1) ls ms (omega arith) (λ i e lt. subst (λ (n : ℕ). HasRun d view server phase n
        (slice_index_or ls i e) (slice_index_or ms i e))
        (let same : number + suc i ≡ number + 1 + i = omega arith in same) (each (suc i) e (omega arith))),
  )

  -- ---- the first lane

  lane-step : (number : ℕ) (xs : List Member) (ws us : List WireView) (os : List Outcome) (s : ScriptSession)
      (l m : Lane D W) (ys : List Member) → IsLaneOf d server s l → HasRun d view server phase number l m
      → m.short ≡ false → number ≡ suc (length ws) → times (user_of l.session.seats) (users_of xs) ≡ 0
      → PhaseRun d (run_of (xs ++ lane_member l ∷ ys) (ws ++ view l.wire ∷ us) os)
      (run_of (xs ++ lane_member m ∷ ys) (ws ++ view m.wire ∷ us) (os ++ m.session.outcomes))
      (tasks_of phase number s.user s.commands)
  lane-step number xs ws us os s l m ys is ran whole at none =
      let user = user_of l.session.seats in
      let before = lane_member l in
      let now = lane_member m in
      let run = run_of (xs ++ before ∷ ys) (ws ++ view l.wire ∷ us) os in
      let lane = lane_view view m in
      let done : LaneRun d user (lane_view view l) lane (tasks_of phase number user l.session.commands) =
      ran.done.all whole in
      let enters : Enters run user number (lane_view view l) = record {
        client = sym (ap (λ (k : Member). k.client) (at-here user before xs ys none refl));
        seats = λ wall. sym (ap (λ (k : Member). k.seat wall) (at-here user before xs ys none refl));
        wire = sym (ap (λ (k : ℕ). wire_at k (ws ++ view l.wire ∷ us)) at ∙ wire-here ws (view l.wire) us);
        outcomes = is.outcomes;
      } in
      let step = run-lane d run user number (lane_view view l) lane (tasks_of phase number user l.session.commands)
      enters (tasks-own phase number user l.session.commands) done in
      let there = lane-there xs before now ys ws (view l.wire) (view m.wire) us os lane user number refl ran.user none
      at refl refl refl in
      let tasks : tasks_of phase number user l.session.commands ≡ tasks_of phase number s.user s.commands =
      ap (λ (u : ℕ). tasks_of phase number u l.session.commands) is.user_is
      ∙ ap (λ (cs : List Command). tasks_of phase number s.user cs) is.commands in
      subst (λ (ts : List Task). PhaseRun d run
      (run_of (xs ++ now ∷ ys) (ws ++ view m.wire ∷ us) (os ++ m.session.outcomes)) ts) tasks
      (subst (λ (r : RunView). PhaseRun d run r (tasks_of phase number user l.session.commands)) there step)

  -- ---- all lanes

  pub lanes-run : (number : ℕ) (xs : List Member) (ws us : List WireView) (os : List Outcome)
      (sessions : List ScriptSession) (befores nows : List (Lane D W)) → AllZip (IsLaneOf d server) sessions befores
      → HaveRun d view server phase number befores nows → AllByRecursion (λ (l : Lane D W). l.short ≡ false) nows
      → number ≡ suc (length ws) → ((u : ℕ) → times u (users_of (xs ++ members_in befores)) ≤ 1)
      → PhaseRun d (run_of (xs ++ members_in befores) (ws ++ (wires_of befores ++ us)) os)
      (run_of (xs ++ members_in nows) (ws ++ (wires_of nows ++ us)) (os ++ outcomes_in nows))
      (tasks_in phase number sessions)
  lanes-run number xs ws us os [] [] [] each ran whole at once =
      let run = run_of (xs ++ members_in []) (ws ++ (wires_of [] ++ us)) os in
      subst (λ (o : List Outcome). PhaseRun d run (run_of (xs ++ members_in []) (ws ++ (wires_of [] ++ us)) o) [])
      (sym (append-nil os)) (run-nothing d run)
  lanes-run number xs ws us os [] [] (m ∷ ms) each ran whole at once = absurd ran
  lanes-run number xs ws us os [] (l ∷ ls) nows each ran whole at once = absurd each
  lanes-run number xs ws us os (s ∷ ss) [] nows each ran whole at once = absurd each
  lanes-run number xs ws us os (s ∷ ss) (l ∷ ls) [] each ran whole at once = absurd ran
  lanes-run number xs ws us os (s ∷ ss) (l ∷ ls) (m ∷ ms) each ran whole at once =
      let before = lane_member l in
      let now = lane_member m in
      let user = user_of l.session.seats in
      let none : times user (users_of xs) ≡ 0 =
      (let most = once user in let sum = tally-more user xs before (members_in ls) in
      let one = times-here user user refl in omega arith) in
      let step = lane-step number xs ws (wires_of ls ++ us) os s l m (members_in ls) each.0 ran.0 whole.0 at none in
      let once' = λ (u : ℕ). let e : times u (users_of ((xs ++ now ∷ []) ++ members_in ls)) ≤ 1 =
      (let most = once u in let sum = tally-more u xs before (members_in ls) in
      let a = tally-append u (xs ++ now ∷ []) (members_in ls) in let b = tally-more u xs now [] in
      let same : times u (now.user ∷ []) ≡ times u (before.user ∷ []) = ap (λ (v : ℕ). times u (v ∷ [])) ran.0.user in
      omega arith) in e in
      let long : number + 1 ≡ suc (length (ws ++ view m.wire ∷ [])) =
      (let sum = length-append ws (view m.wire ∷ []) in omega (at, sum, arith)) in
      let rest = lanes-run (number + 1) (xs ++ now ∷ []) (ws ++ view m.wire ∷ []) us (os ++ m.session.outcomes) ss ls
      ms each.1 ran.1 whole.1 long once' in
      let start = run_of (xs ++ before ∷ members_in ls) (ws ++ view l.wire ∷ (wires_of ls ++ us)) os in
      let mid : run_of ((xs ++ now ∷ []) ++ members_in ls) ((ws ++ view m.wire ∷ []) ++ (wires_of ls ++ us))
      (os ++ m.session.outcomes)
      ≡ run_of (xs ++ now ∷ members_in ls) (ws ++ view m.wire ∷ (wires_of ls ++ us)) (os ++ m.session.outcomes) =
      λ i. run_of (append_assoc xs (now ∷ []) (members_in ls) i)
      (append_assoc ws (view m.wire ∷ []) (wires_of ls ++ us) i) (os ++ m.session.outcomes) in
      let end : run_of ((xs ++ now ∷ []) ++ members_in ms) ((ws ++ view m.wire ∷ []) ++ (wires_of ms ++ us))
      ((os ++ m.session.outcomes) ++ outcomes_in ms)
      ≡ run_of (xs ++ now ∷ members_in ms) (ws ++ view m.wire ∷ (wires_of ms ++ us))
      (os ++ (m.session.outcomes ++ outcomes_in ms)) =
      λ i. run_of (append_assoc xs (now ∷ []) (members_in ms) i)
      (append_assoc ws (view m.wire ∷ []) (wires_of ms ++ us) i)
      (append_assoc os m.session.outcomes (outcomes_in ms) i) in
      let tasks = tasks_in phase (number + 1) ss in
      let from = subst (λ (r : RunView). PhaseRun d r (run_of ((xs ++ now ∷ []) ++ members_in ms)
      ((ws ++ view m.wire ∷ []) ++ (wires_of ms ++ us)) ((os ++ m.session.outcomes) ++ outcomes_in ms)) tasks) mid rest in
      let to = subst (λ (r : RunView). PhaseRun d
      (run_of (xs ++ now ∷ members_in ls) (ws ++ view m.wire ∷ (wires_of ls ++ us)) (os ++ m.session.outcomes)) r tasks)
      end from in
      run-then d start
      (run_of (xs ++ now ∷ members_in ls) (ws ++ view m.wire ∷ (wires_of ls ++ us)) (os ++ m.session.outcomes))
      (run_of (xs ++ now ∷ members_in ms) (ws ++ view m.wire ∷ (wires_of ms ++ us))
      (os ++ (m.session.outcomes ++ outcomes_in ms))) (tasks_of phase number s.user s.commands) tasks step to
