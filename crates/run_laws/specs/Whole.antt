-- The whole run of a script, and what it came to. d is the digest of strings that the script names.
use Rattle.std.specs.Prelude.{◌≡◌, ℕ, List, length, map}
use Rattle.std.specs.List.{AllZip}
use Rattle.fr_digest.specs.Digest.{Digest}
use Rattle.fr_edges.specs.Wire.{WireView}
use Rattle.hall_core.specs.Standing as standing
use Rattle.script_read.specs.declared.script.Script.{Script}
use Rattle.script_read.specs.Users.{has_user}
use Rattle.script_read.specs.Walls.{has_wall}
use Rattle.script_form.specs.declared.outcome.Outcomes.{Outcomes}
use Rattle.session_laws.specs.Runs.{PhaseRun, RunView}
use Rattle.run_phases.specs.Members.{wire_at}
use Rattle.run_phases.specs.Tasks.{tasks_from}
use Rattle.run_start.specs.Keys.{notes_in}
use Rattle.run_start.specs.Numbers.{Lists}
use Rattle.run_end.specs.Ends.{TellsOf, wall_end}
use Rattle.run_script.specs.Runs.{IsBookOf, IsHallOf, opening_run}
use Rattle.world_book.specs.declared.world.World.{World}
use Rattle.world_book.specs.Kept.{Kept}

-- The script's users, in rising order, did the tasks of its phases over the wires, phase by phase. The outcomes, the
-- wires, the halls and the world are those that this leaves; the books of the world are kept, the audit tells of them, and
-- the walls' ends are those of the halls.
pub record Whole (d : Digest) (script : Script) (wires wires' : List WireView) (world : World)
    (halls : List standing.Hall) (outcomes : Outcomes) : Type 0 where
  pub users : List ℕ
  pub walls : List ℕ
  pub all_users : Lists (has_user script.users) users
  pub all_walls : Lists (has_wall script.walls) walls
  pub end : RunView
  pub run : PhaseRun d (opening_run script users walls wires) end (tasks_from 1 script.phases)
  pub told : outcomes.commands ≡ end.outcomes
  pub carried : (session : ℕ) → end.wire session ≡ wire_at session wires'
  pub sixteen : length wires' ≡ 16
  pub histories : AllZip (IsHallOf d script users (opening_run script users walls wires) run.heards) walls halls
  pub books : AllZip (IsBookOf script end) users world.users
  pub notes : world.walls ≡ notes_in script walls
  pub kept : Kept d world
  pub audited : TellsOf d world outcomes.audit
  pub ends : outcomes.walls ≡ map (wall_end d) halls
