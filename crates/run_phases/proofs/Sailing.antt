-- A phase's lanes ran, and what they had went back.
use Rattle.std.proofs.Common.{◌≡◌, ℕ, ◌+◌, ◌<◌, false, List, length, refl, subst, arith, Result, Ok, Err}
use Rattle.std.specs.Prelude.{OnOk, slice_index_or}
use Rattle.std.specs.List.{All, AllByRecursion}
use Rattle.std.proofs.lemmas.List.Elements.{recursion_from_All}
use Rattle.fr_digest.specs.Digest.{Digest}
use Rattle.fr_edges.specs.Wire.{WireView}
use Rattle.hall_server.specs.declared.server.Server.{Server}
use Rattle.script_read.specs.declared.script.ScriptSession.{ScriptSession}
use Rattle.session_laws.specs.Runs.{PhaseRun}
use Rattle.session_run.specs.declared.lane.Lane.{Lane}
use Rattle.session_run.specs.Phases.{HasRun}
use Rattle.run_phases.specs.declared.running.Running.{Running}
use Rattle.run_phases.specs.Phases.{AreMembers, Entered, HaveRun, KeepsUsers, Left, run_view}
use Rattle.run_phases.specs.Tasks.{tasks_in}
use Rattle.run_phases.proofs.LaneSteps.{have-run}
use Rattle.run_phases.proofs.Landing.{keeps, phase-ran}

pub ok-so : {A E : Type 0} (P Q : Type 0) (r : Result A E) → OnOk r P → (P → Q) → OnOk r Q
ok-so P Q (Ok x) p f = f p
ok-so P Q (Err e) p f = tt

module _ {D W : Type 0} (d : Digest) (view : W → WireView) (server : Server D) (phase : ℕ)
    (sessions : List ScriptSession) (before mid now : Running D W) (befores nows : List (Lane D W))
    (are : AreMembers d server before.clients.items before.seats.items)
    (e : Entered d server sessions before mid befores) (count : length nows ≡ length befores)
    (each : (i : ℕ) (l : Lane D W) → i < length befores
    → HasRun d view server phase (i + 1) (slice_index_or befores i l) (slice_index_or nows i l))
    (whole : All (λ (l : Lane D W). l.short ≡ false) nows) (left : Left mid now nows) where
  ran : HaveRun d view server phase 1 befores nows
  ran = have-run d view server phase 1 befores nows count
      (λ i l lt. subst (λ (n : ℕ). HasRun d view server phase n (slice_index_or befores i l) (slice_index_or nows i l))
      (let same : i + 1 ≡ 1 + i = omega arith in same) (each i l lt))

  all-whole : AllByRecursion (λ (l : Lane D W). l.short ≡ false) nows
  all-whole = recursion_from_All (λ (l : Lane D W). l.short ≡ false) nows whole

  pub phase-of : PhaseRun d (run_view view before) (run_view view now) (tasks_in phase 1 sessions)
  phase-of = phase-ran d view server phase sessions before mid now befores nows e ran all-whole left are

  pub keeps-of : KeepsUsers d server before now
  keeps-of = keeps d view server phase sessions before mid now befores nows e ran all-whole left are
