-- Phases, and how many commands they have.
use Rattle.std.proofs.Common.{◌≡◌, ℕ, ◌+◌, ◌-◌, ◌≤◌, List, [], ◌∷◌, ◌++◌, length, arith}
use Rattle.std.specs.Prelude.{codes}
use Rattle.std.specs.List.{All, IsDistinct, sum_by}
use Rattle.std.proofs.lemmas.List.Elements.{All-nil}
use Rattle.std.proofs.lemmas.List.Sums.{sum_by-cons, sum_by_push}
use Rattle.serde_json.specs.Data.{Data}
use Rattle.serde_json.specs.Find.{as_array}
use Rattle.script_read.specs.declared.script.ScriptSession.{ScriptSession}
use Rattle.script_read.specs.Refusal.{◌>>=◌, found}
use Rattle.script_read.specs.Fields.{sized_list, list_within}
use Rattle.script_read.specs.Elements.{each}
use Rattle.script_read.specs.Phases.{room_after, room_left, session_of, phase_of}
use Rattle.script_read.specs.Script.{phases_of}
use Rattle.script_read.specs.Limits.{IsSession, IsPhase, ArePhases, same_session, commands_in}
use Rattle.script_read.proofs.Holding.{Holds, after, skip, weaker, sized_holds}
use Rattle.script_read.proofs.Added.{All_more, distinct_more, distinct_none, counted, listed_at}
use Rattle.script_read.proofs.CommandRanges.{session_holds}

-- ---- room

abbrev size : ScriptSession → ℕ
size session = length session.commands

-- what is left behind the sessions of a phase
room_after_is : (room : ℕ) (sessions : List ScriptSession) → room_after room sessions ≡ room - commands_in sessions
room_after_is room [] = omega arith
room_after_is room (s ∷ sessions) =
    let others : room_after (room - size s) sessions ≡ room - size s - commands_in sessions =
    room_after_is (room - size s) sessions in
    let all : commands_in (s ∷ sessions) ≡ size s + commands_in sessions = sum_by-cons size s sessions in
    omega (arith, others, all)

room_left_is : (room : ℕ) (phases : List (List ScriptSession))
    → room_left room phases ≡ room - sum_by commands_in phases
room_left_is room [] = omega arith
room_left_is room (p ∷ phases) =
    let this : room_after room p ≡ room - commands_in p = room_after_is room p in
    let others : room_left (room_after room p) phases ≡ room_after room p - sum_by commands_in phases =
    room_left_is (room_after room p) phases in
    let all : sum_by commands_in (p ∷ phases) ≡ commands_in p + sum_by commands_in phases =
    sum_by-cons commands_in p phases in
    omega (arith, this, others, all)

-- ---- a phase

abbrev SessionsSoFar : ℕ → List ScriptSession → Type 0
SessionsSoFar room sessions = All IsSession sessions × IsDistinct same_session sessions
    × (commands_in sessions ≤ room)

one_session_more : (room : ℕ) (before : List ScriptSession) (d : Data) → SessionsSoFar room before
    → Holds (λ s. SessionsSoFar room (before ++ s ∷ [])) (session_of room before d)
one_session_more room before d so_far =
    weaker (session_of room before d) (session_holds room before d)
    (λ s h. (
      All_more IsSession before s so_far.0 h.0,
      distinct_more same_session before s so_far.1 h.1,
      omega (arith, h.2, so_far.2, room_after_is room before, sum_by_push size before s),
    ))

-- a phase behind those that came before
abbrev FollowsPhases : ℕ → List (List ScriptSession) → List ScriptSession → Type 0
FollowsPhases room before p = IsPhase p × (commands_in p ≤ room_left room before)

phase_holds : (room : ℕ) (before : List (List ScriptSession)) (d : Data)
    → Holds (FollowsPhases room before) (phase_of room before d)
unfolding phase_of
phase_holds room before d =
    let left = room_left room before in
    skip (found (codes "phases") (as_array d)) (λ list.
    after (sized_list (codes "sessions") 0 16 list) (sized_holds (codes "sessions") 0 16 list) (λ ds few.
    weaker (each (session_of left) [] ds)
    (counted (session_of left) (SessionsSoFar left) 0 16 ds few
    (All-nil IsSession, distinct_none same_session, omega arith) (one_session_more left))
    (λ sessions h. (record { few = h.0.1; all = h.1.0; distinct = h.1.1 }, h.1.2))))

-- ---- all phases

abbrev PhasesSoFar : List (List ScriptSession) → Type 0
PhasesSoFar phases = All IsPhase phases × (sum_by commands_in phases ≤ 2048)

one_phase_more : (before : List (List ScriptSession)) (d : Data) → PhasesSoFar before
    → Holds (λ p. PhasesSoFar (before ++ p ∷ [])) (phase_of 2048 before d)
one_phase_more before d so_far =
    weaker (phase_of 2048 before d) (phase_holds 2048 before d)
    (λ p h. (
      All_more IsPhase before p so_far.0 h.0,
      omega (arith, h.1, so_far.1, room_left_is 2048 before, sum_by_push commands_in before p),
    ))

pub phases_hold : (o : Data) → Holds ArePhases (phases_of o)
unfolding phases_of
phases_hold o =
    weaker (list_within (codes "phases") 0 64 o >>= λ ds. each (phase_of 2048) [] ds)
    (listed_at (phase_of 2048) PhasesSoFar (codes "phases") 0 64 o (All-nil IsPhase, omega arith) one_phase_more)
    (λ phases h. record { few = h.0.1; all = h.1.0; room = h.1.1 })
