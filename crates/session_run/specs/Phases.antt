-- What a phase asks of its lanes, and what it does to them. d is the digest of strings.
use Rattle.std.specs.Prelude.{◌≡◌, ℕ, ◌≤◌, false, List, [], length}
use Rattle.std.specs.List.{AllByRecursion, Contains}
use Rattle.fr_digest.specs.Digest.{Digest}
use Rattle.fr_edges.specs.Wire.{WireView}
use Rattle.script_read.specs.declared.script.Command.{Command}
use Rattle.hall_server.specs.declared.server.Server.{Server}
use Rattle.hall_server.specs.Seating.{IsSeatsOf, walls_of}
use Rattle.hall_server.specs.Sights.{user_of}
use Rattle.session_laws.specs.Doing.{tasks_of, wall_of}
use Rattle.session_laws.specs.Lanes.{LaneDone}
use Rattle.session_laws.specs.Readiness.{CanDo, IsAskable}
use Rattle.session_run.specs.declared.lane.Lane.{Lane}
use Rattle.session_run.specs.Views.{client_of, lane_view}

-- a command that may be asked of these walls
pub record IsAsked (walls : List ℕ) (command : Command) : Type 0 where
  pub askable : IsAskable command
  pub listed : Contains walls (wall_of command)

-- A lane can run at a server: its client and its seats are one user's, the seats are this server's, the client can do the
-- commands, and nothing has come of them yet.
pub record IsReady {D W : Type 0} (d : Digest) (server : Server D) (lane : Lane D W) : Type 0 where
  pub seats : IsSeatsOf d server lane.session.seats
  pub user : (client_of lane.session.client).user ≡ user_of lane.session.seats
  pub few : length lane.session.commands ≤ 2048
  pub asked : AllByRecursion (IsAsked (walls_of server)) lane.session.commands
  pub can : CanDo (client_of lane.session.client) lane.session.commands
  pub outcomes : lane.session.outcomes ≡ []
  pub whole : lane.short ≡ false

-- A lane ran as a session of a phase, or is short: its seats are still this server's and its user's.
pub record HasRun {D W : Type 0} (d : Digest) (view : W → WireView) (server : Server D) (phase session : ℕ)
    (before now : Lane D W) : Type 0 where
  pub seats : IsSeatsOf d server now.session.seats
  pub user : user_of now.session.seats ≡ user_of before.session.seats
  pub commands : now.session.commands ≡ before.session.commands
  pub done : LaneDone d (user_of before.session.seats) now.short (lane_view view before) (lane_view view now)
      (tasks_of phase session (user_of before.session.seats) before.session.commands)
