-- What a stretch of a run does: one lane, one phase, or several. d is the digest of strings.
use Rattle.std.specs.Prelude.{◌≡◌, ℕ, List, [], ◌++◌, map, nat_eq, if◌then◌else◌}
use Rattle.std.specs.List.{AllByRecursion}
use Rattle.fr_digest.specs.Digest.{Digest}
use Rattle.fr_edges.specs.Wire.{WireView}
use Rattle.script_form.specs.declared.outcome.Outcome.{Outcome}
use Rattle.session_laws.specs.Doing.{Heard, PlainClient, Task, all_dids, client_of, dids, exchanges_of, on, outcomes_of, over, stream}
use Rattle.hall_server.specs.Sights.{Sight}
use Rattle.session_laws.specs.Halves.{SeatHalf, WireHalf}
use Rattle.session_laws.specs.Lanes.{HeardBytes, LaneView}

-- the clients by user, the seats by user and wall, the wires by session, and the outcomes
pub record RunView : Type 0 where
  pub client : ℕ → PlainClient
  pub seat : ℕ → ℕ → Sight
  pub wire : ℕ → WireView
  pub outcomes : List Outcome

-- These tasks were done: each user's client, turns and snapshots are those of its tasks, each session's wire carried
-- those of the session, and the outcomes stand in the order of the tasks. Nothing compares two users.
pub record PhaseRun (d : Digest) (before now : RunView) (tasks : List Task) : Type 0 where
  pub heards : List Heard
  pub asked : map (λ (h : Heard). h.task) heards ≡ tasks
  pub bytes : AllByRecursion HeardBytes heards
  pub clients : (user : ℕ) → now.client user ≡ client_of d before.client user heards
  pub seats : (user wall : ℕ) → SeatHalf d user (before.seat user wall) (now.seat user wall)
      (on wall (exchanges_of (dids d (before.client user) (stream user heards))))
  pub wires : (session : ℕ) → WireHalf (before.wire session) (now.wire session)
      (exchanges_of (over session (all_dids d before.client heards)))
  pub told : now.outcomes ≡ before.outcomes ++ outcomes_of (all_dids d before.client heards)

-- ---- lanes in a run

-- The lane begins where the run stands.
pub record Enters (run : RunView) (user session : ℕ) (lane : LaneView) : Type 0 where
  pub client : lane.client ≡ run.client user
  pub seats : (wall : ℕ) → lane.seat wall ≡ run.seat user wall
  pub wire : lane.wire ≡ run.wire session
  pub outcomes : lane.outcomes ≡ []

-- the run with what a lane of a user's session left
abbrev pub with_lane : RunView → ℕ → ℕ → LaneView → RunView
with_lane run user session lane = record {
  client = λ (v : ℕ). if nat_eq user v then lane.client else run.client v;
  seat = λ (v : ℕ). if nat_eq user v then lane.seat else run.seat v;
  wire = λ (i : ℕ). if nat_eq session i then lane.wire else run.wire i;
  outcomes = run.outcomes ++ lane.outcomes;
}

-- a task of a user's session
pub record IsOf (user session : ℕ) (task : Task) : Type 0 where
  pub user_is : task.user ≡ user
  pub session_is : task.place.session ≡ session
