-- What the run of a script did, and what it came to. d is the digest of strings.
use Rattle.std.specs.Prelude.{◌≡◌, ℕ, List, [], length, map}
use Rattle.std.specs.List.{AllZip}
use Rattle.fr_digest.specs.Digest.{Digest}
use Rattle.fr_edges.specs.Wire.{WireView}
use Rattle.hall_core.specs.Calls.{turns}
use Rattle.hall_core.specs.Standing as standing
use Rattle.hall_server.specs.Meetings.{HasNoStranger, IsKept}
use Rattle.hall_server.specs.Sights.{sight_in}
use Rattle.world_book.specs.declared.book.UserBook.{UserBook}
use Rattle.world_book.specs.Kept.{Kept}
use Rattle.script_read.specs.declared.script.Script.{Script}
use Rattle.script_read.specs.Users.{has_user}
use Rattle.script_read.specs.Walls.{has_wall}
use Rattle.session_laws.specs.Doing.{Heard, dids, exchanges_of, on, plain, stream, took_view}
use Rattle.session_laws.specs.Halves.{Serves}
use Rattle.session_laws.specs.Histories.{IsUser, Ordered}
use Rattle.session_laws.specs.Runs.{PhaseRun, RunView}
use Rattle.run_phases.specs.Members.{Member, run_of, wire_at}
use Rattle.run_phases.specs.Tasks.{numbers_from, tasks_from}
use Rattle.run_start.specs.Begins.{opening_sights}
use Rattle.run_start.specs.Clients.{opening_client}
use Rattle.run_start.specs.Keys.{facts_at, keys_in, notes_in, user_key}
use Rattle.run_start.specs.Numbers.{Lists, the_user}
use Rattle.run_end.specs.Ends.{TellsOf, wall_end}
use Rattle.run_script.specs.declared.closing.Ran.{Ran}

-- ---- the beginning

-- the users with their clients, who have seen nothing of any wall
abbrev pub opening_members : Script → List ℕ → List ℕ → List Member
opening_members script users walls = map (λ (u : ℕ). record {
  user = u;
  client = plain (opening_client script users walls u);
  seat = λ (wall : ℕ). sight_in (opening_sights script users walls) wall;
}) users

-- the run before its first phase
abbrev pub opening_run : Script → List ℕ → List ℕ → List WireView → RunView
opening_run script users walls wires = run_of (opening_members script users walls) wires []

-- ---- the end

-- The hall of a wall at the end: it is the script's wall, its entries are one legal history that leaves its leaves, in
-- which no entry is a stranger's, with one stretch for each phase; and each user's turns in it are those of the user's
-- exchanges, each of which carries the honest reply by what that turn left.
pub record IsHallOf (d : Digest) (script : Script) (users : List ℕ) (start : RunView) (heards : List Heard) (wall : ℕ)
    (hall : standing.Hall) : Type 0 where
  pub facts : hall.facts ≡ facts_at script (keys_in script users) wall
  pub kept : IsKept d hall
  pub known : HasNoStranger users hall
  pub ordered : Ordered users d start.client heards wall (numbers_from 1 script.phases) hall.entries
  pub served : (user : ℕ) → IsUser users user → AllZip (Serves d hall.facts)
      (on wall (exchanges_of (dids d (start.client user) (stream user heards)))) (turns d hall.facts user hall.entries)

-- The book of a user at the end: the user's key, and the replies that its client took and the operations that it signed.
pub record IsBookOf (script : Script) (end : RunView) (user : ℕ) (book : UserBook) : Type 0 where
  pub user_is : book.user ≡ user
  pub key : book.key ≡ user_key script user
  pub rogue : book.rogue ≡ (the_user script user).rogue
  pub took : map took_view book.took ≡ (end.client user).took
  pub signed : book.signed ≡ (end.client user).signed

-- A script was run over these wires and came to this: its users, in rising order, did their tasks phase by phase; and the
-- outcomes, the wires, the halls and the books are those that this leaves. The books make a kept world, and the audit
-- tells of that world.
pub record RunOf {D W : Type 0} (d : Digest) (view : W → WireView) (script : Script) (wires : List W) (ran : Ran D W)
    : Type 0 where
  pub users : List ℕ
  pub walls : List ℕ
  pub all_users : Lists (has_user script.users) users
  pub all_walls : Lists (has_wall script.walls) walls
  pub end : RunView
  pub run : PhaseRun d (opening_run script users walls (map view wires)) end (tasks_from 1 script.phases)
  pub outcomes : ran.outcomes.commands ≡ end.outcomes
  pub wires_are : (session : ℕ) → end.wire session ≡ wire_at session (map view ran.wires.items)
  pub sixteen : length ran.wires.items ≡ length wires
  pub halls : AllZip (IsHallOf d script users (opening_run script users walls (map view wires)) run.heards) walls
      ran.halls.items
  pub books : AllZip (IsBookOf script end) users ran.world.users
  pub notes : ran.world.walls ≡ notes_in script walls
  pub kept : Kept d ran.world
  pub audited : TellsOf d ran.world ran.outcomes.audit
  pub ends : ran.outcomes.walls ≡ map (wall_end d) ran.halls.items
