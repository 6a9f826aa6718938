-- What phases need of the users of a run, and what they do. d is the digest of strings.
use Rattle.std.specs.Prelude.{◌≡◌, ℕ, ◌+◌, ◌≤◌, false, List, [], ◌∷◌, ◌++◌, length, map}
use Rattle.std.specs.List.{AllByRecursion, AllZip}
use Rattle.fr_digest.specs.Digest.{Digest}
use Rattle.fr_edges.specs.Wire.{WireView}
use Rattle.script_read.specs.declared.script.ScriptSession.{ScriptSession}
use Rattle.script_form.specs.declared.outcome.Outcome.{Outcome}
use Rattle.client_core.specs.Clients.{Standing}
use Rattle.hall_server.specs.declared.seats.Seats.{Seats}
use Rattle.hall_server.specs.declared.server.Server.{Server}
use Rattle.hall_server.specs.Seating.{IsSeatsOf, walls_of}
use Rattle.hall_server.specs.Sights.{user_of}
use Rattle.fr_bytes.specs.History.{own}
use Rattle.hall_core.specs.declared.ask.Ask.{Ask}
use Rattle.hall_core.specs.declared.ask.Called.{Called}
use Rattle.hall_core.specs.Calls.{caller_of}
use Rattle.session_laws.specs.Doing.{Exchange, Heard, Task, dids, exchanges_of, on, stream}
use Rattle.session_laws.specs.Histories.{Histories, IsUser, Together, asks_of}
use Rattle.session_laws.specs.Readiness.{CanDo}
use Rattle.session_laws.specs.Runs.{PhaseRun, RunView}
use Rattle.session_run.specs.declared.lane.Lane.{Lane}
use Rattle.session_run.specs.Phases.{HasRun, IsAsked}
use Rattle.session_run.specs.Views.{client_of}
use Rattle.run_phases.specs.declared.running.Running.{Running}
use Rattle.run_phases.specs.Members.{Member, member_at, member_of, members, run_of, times, users_of}
use Rattle.run_phases.specs.Tasks.{commands_of, numbers_from, tasks_from}

-- ---- scripts

-- A session of one of these users, with commands that may be asked of these walls.
pub record IsSession (walls users : List ℕ) (s : ScriptSession) : Type 0 where
  pub known : times s.user users ≡ 1
  pub few : length s.commands ≤ 2048
  pub asked : AllByRecursion (IsAsked walls) s.commands

-- A phase: at most 16 sessions, each of another user.
pub record IsPhase (walls users : List ℕ) (sessions : List ScriptSession) : Type 0 where
  pub few : length sessions ≤ 16
  pub each : AllByRecursion (IsSession walls users) sessions
  pub apart : (user : ℕ) → times user (map (λ (s : ScriptSession). s.user) sessions) ≤ 1

-- ---- members

module _ {D : Type 0} where
  -- The clients and the seats are each user's, no two the same user's, and the seats are this server's.
  pub record AreMembers (d : Digest) (server : Server D) (clients : List Standing) (seats : List (Seats D)) : Type 0 where
    pub same : map (λ (c : Standing). (client_of c).user) clients ≡ map user_of seats
    pub once : (user : ℕ) → times user (map user_of seats) ≤ 1
    pub seated : AllByRecursion (IsSeatsOf d server) seats

  -- A user's client and seats are taken out of these.
  pub record TakesOut (user : ℕ) (clients clients' : List Standing) (seats seats' : List (Seats D)) (client : Standing)
      (own : Seats D) : Type 0 where
    pub front : List Standing
    pub back : List Standing
    pub before : List (Seats D)
    pub behind : List (Seats D)
    pub clients_are : clients ≡ front ++ client ∷ back
    pub clients_left : clients' ≡ front ++ back
    pub seats_are : seats ≡ before ++ own ∷ behind
    pub seats_left : seats' ≡ before ++ behind
    pub even : length front ≡ length before
    pub user_is : user_of own ≡ user

-- Members went from one list to the end of another.
pub record Moved (before now gone : List Member) : Type 0 where
  pub same : (user : ℕ) → member_at user before ≡ member_at user (now ++ gone)
  pub counted : (user : ℕ) → times user (users_of before) ≡ times user (users_of (now ++ gone))
  pub many : length before ≡ length now + length gone

-- ---- runs

module _ {D W : Type 0} where
  abbrev pub members_of : Running D W → List Member
  members_of run = members run.clients.items run.seats.items

  -- what is seen of a run
  abbrev pub run_view : (W → WireView) → Running D W → RunView
  run_view view run = run_of (members_of run) (map view run.wires.items) run.outcomes.items

  abbrev pub lane_member : Lane D W → Member
  lane_member lane = member_of lane.session.client lane.session.seats

  -- a lane that is to do a session
  pub record IsLaneOf (d : Digest) (server : Server D) (s : ScriptSession) (lane : Lane D W) : Type 0 where
    pub seats : IsSeatsOf d server lane.session.seats
    pub user : (client_of lane.session.client).user ≡ user_of lane.session.seats
    pub user_is : user_of lane.session.seats ≡ s.user
    pub commands : lane.session.commands ≡ s.commands
    pub outcomes : lane.session.outcomes ≡ []
    pub whole : lane.short ≡ false

  -- A session got its lane: its user's client and seats, and the run's first wire, went into it.
  pub record LaneTaken (s : ScriptSession) (before now : Running D W) (lane : Lane D W) : Type 0 where
    pub taken : TakesOut s.user before.clients.items now.clients.items before.seats.items now.seats.items
        lane.session.client lane.session.seats
    pub wire : before.wires.items ≡ lane.wire ∷ now.wires.items
    pub outcomes_left : now.outcomes ≡ before.outcomes
    pub commands : lane.session.commands ≡ s.commands
    pub outcomes : lane.session.outcomes ≡ []
    pub whole : lane.short ≡ false

  -- The sessions' clients, seats and wires went from the run into lanes.
  pub record Entered (d : Digest) (server : Server D) (sessions : List ScriptSession) (before now : Running D W)
      (lanes : List (Lane D W)) : Type 0 where
    pub moved : Moved (members_of before) (members_of now) (map lane_member lanes)
    pub left : AreMembers d server now.clients.items now.seats.items
    pub wires : before.wires.items ≡ map (λ (l : Lane D W). l.wire) lanes ++ now.wires.items
    pub outcomes : now.outcomes ≡ before.outcomes
    pub each : AllZip (IsLaneOf d server) sessions lanes

  -- what came of lanes, in their order
  abbrev pub outcomes_in : List (Lane D W) → List Outcome
  outcomes_in [] = []
  outcomes_in (lane ∷ lanes) = lane.session.outcomes ++ outcomes_in lanes

  -- What lanes had went back to the run.
  pub record Left (before now : Running D W) (lanes : List (Lane D W)) : Type 0 where
    pub clients : now.clients.items ≡ before.clients.items ++ map (λ (l : Lane D W). l.session.client) lanes
    pub seats : now.seats.items ≡ before.seats.items ++ map (λ (l : Lane D W). l.session.seats) lanes
    pub wires : now.wires.items ≡ map (λ (l : Lane D W). l.wire) lanes ++ before.wires.items
    pub outcomes : now.outcomes.items ≡ before.outcomes.items ++ outcomes_in lanes

  -- The lanes ran as the sessions of a phase, the first with this number.
  abbrev pub HaveRun : Digest → (W → WireView) → Server D → ℕ → ℕ → List (Lane D W) → List (Lane D W) → Type 0
  HaveRun d view server phase number [] [] = Unit {0}
  HaveRun d view server phase number (l ∷ ls) (m ∷ ms) =
      HasRun d view server phase number l m × HaveRun d view server phase (number + 1) ls ms
  HaveRun d view server phase number _ _ = ⊥

  -- A run can do these phases at a server: its users are the server's, there are 16 wires, the sessions are of its users,
  -- and each user's client can do the user's commands.
  pub record CanPlay (d : Digest) (server : Server D) (run : Running D W) (phases : List (List ScriptSession)) : Type 0
    where
      pub members : AreMembers d server run.clients.items run.seats.items
      pub wires : length run.wires.items ≡ 16
      pub each : AllByRecursion (IsPhase (walls_of server) (map user_of run.seats.items)) phases
      pub can : (user : ℕ) → times user (map user_of run.seats.items) ≡ 1
          → CanDo (member_at user (members_of run)).client (commands_of user phases)

  -- The users of a run, and how many wires there are, stay.
  pub record KeepsUsers (d : Digest) (server : Server D) (before now : Running D W) : Type 0 where
    pub members : AreMembers d server now.clients.items now.seats.items
    pub wires : length now.wires.items ≡ length before.wires.items
    pub counted : (user : ℕ) → times user (map user_of now.seats.items) ≡ times user (map user_of before.seats.items)
    pub many : length now.seats.items ≡ length before.seats.items

-- ---- phases

-- what users have seen of a wall
abbrev pub fronts : RunView → ℕ → ℕ → List Called
fronts run wall user = (run.seat user wall).front

-- What a user asked of a wall, by what was heard behind a run as it was before.
abbrev pub asks_on : Digest → RunView → List Heard → ℕ → ℕ → List Ask
asks_on d before heards wall user = map (λ (x : Exchange). x.ask)
    (on wall (exchanges_of (dids d (before.client user) (stream user heards))))

-- A history of a wall that all of these users have seen has grown by a stretch with what each of them asked, and all have
-- seen that too.
pub record Grown (d : Digest) (users : List ℕ) (before now : RunView) (heards : List Heard) (wall : ℕ)
    (history : List Called) : Type 0 where
  pub stretch : List Called
  pub together : Together users (fronts now wall) (history ++ stretch)
  pub asked : (user : ℕ) → IsUser users user
      → asks_of (own caller_of user stretch) ≡ asks_on d before heards wall user

-- One phase, behind which all users met.
pub record PlayedPhase (d : Digest) (users : List ℕ) (before now : RunView) (tasks : List Task) : Type 0 where
  pub run : PhaseRun d before now tasks
  pub grown : (wall : ℕ) (history : List Called) → Together users (fronts before wall) history
      → Grown d users before now run.heards wall history

-- What phases did, of which the first has this number: they did their sessions' tasks, and left each wall a stretch of
-- its history each, of which every user has then seen all.
pub record Played (d : Digest) (users : List ℕ) (first : ℕ) (phases : List (List ScriptSession)) (before now : RunView)
    : Type 0 where
  pub run : PhaseRun d before now (tasks_from first phases)
  pub histories : (wall : ℕ) → Histories users d before.client run.heards wall (numbers_from first phases)
      (fronts now wall)
