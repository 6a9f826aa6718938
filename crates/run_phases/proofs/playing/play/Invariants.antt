use Rattle.std.proofs.Common.{◌≡◌, ◌+◌, ◌∷◌, ℕ, List, map, drop, take}
use Rattle.hall_server.specs.Sights.{user_of}
use Rattle.session_laws.specs.Histories.{IsUser}
use Rattle.run_phases.specs.Members.{times}
use Rattle.run_phases.specs.Phases.{CanPlay, KeepsUsers, Played, run_view}
use Rattle.run_phases.proofs.playing.play.Given as goal

abbrev pub invariant-loop-sessions : goal.invariant-loop-sessions
invariant-loop-sessions g l = record {
  played : (u : ℕ) (users : List ℕ)
      → ((user : ℕ) → IsUser (u ∷ users) user → times user (map user_of l.initial.run.seats.items) ≡ 1)
      → Played g.D.Digester.digest_of (u ∷ users) 1 (take l.sessions-index l.phases) (run_view g.W.Wire.view l.initial.run)
      (run_view g.W.Wire.view l.run);
  keeps : KeepsUsers g.D.Digester.digest_of l.server l.initial.run l.run;
  can : CanPlay g.D.Digester.digest_of l.server l.run (drop l.sessions-index l.phases);
  number : l.phase ≡ l.sessions-index + 1;
}
