-- What a run of a script over straight wires comes to. d is the digest of strings.
use Rattle.std.specs.Prelude.{◌≡◌, ◌⊎◌, ◌<◌, ◌≤◌, ℕ, false, true, List, length, slice_get, take, Some}
use Rattle.std.specs.List.{AllByRecursion, AllZip, list_any}
use Rattle.fr_bytes.specs.Bytes.{Text}
use Rattle.fr_digest.specs.Digest.{Digest}
use Rattle.fr_edges.specs.Wire.{WireView}
use Rattle.op_types.specs.declared.op.Leaf.{Leaf}
use Rattle.op_types.specs.Kinds.{is_change}
use Rattle.world_book.specs.declared.took.Took.{Took}
use Rattle.world_book.specs.declared.world.World.{World}
use Rattle.world_book.specs.Records.{IsIn, records_of}
use Rattle.world_audit.specs.Story.{story}
use Rattle.audit_run.specs.Answer.{count_grounded, count_records}
use Rattle.hall_core.specs.Calls.{turns}
use Rattle.hall_core.specs.Standing as standing
use Rattle.script_form.specs.declared.outcome.AuditLine.TheVariants as lines
use Rattle.script_form.specs.declared.outcome.CommandEnd.TheVariants as ends
use Rattle.script_form.specs.declared.outcome.Outcome.{Outcome}
use Rattle.script_form.specs.declared.outcome.Outcomes.{Outcomes}
use Rattle.script_form.specs.Status.{fails}
use Rattle.session_laws.specs.Doing.{Did, Heard, all_dids, stream, wall_of}
use Rattle.session_laws.specs.Histories.{IsUser}
use Rattle.session_laws.specs.Runs.{RunView}
use Rattle.script_read.specs.declared.script.Script.{Script}
use Rattle.run_script.specs.Runs.{opening_run}
use Rattle.run_start.specs.Numbers.{the_wall}
use Rattle.run_laws.specs.Reading.{AreByList, IsPosted}
use Rattle.run_laws.specs.Telling.{TellsAll}
use Rattle.run_laws.specs.Whole.{Whole}

-- Each of sixteen wires delivers what it is handed.
pub record AreStraight (wires : List WireView) : Type 0 where
  pub sixteen : length wires ≡ 16
  pub each : AllByRecursion (λ (wire : WireView). wire.straight ≡ true) wires

-- so much of a wall was seen by a command that ended so
abbrev pub Sees : Outcome → ℕ → Type 0
Sees o size = (o.end ≡ ends.Same size) ⊎ ((from : ℕ) × (o.end ≡ ends.Accepted size from))

-- A command on the wall sees at least as much as any command on it of an earlier phase.
abbrev pub InPhaseOrder : ℕ → List Did → Type 0
InPhaseOrder wall ds = (x y : Did) (m n : ℕ) → IsIn ds x → IsIn ds y → wall_of x.task.command ≡ wall
    → wall_of y.task.command ≡ wall → x.task.place.phase < y.task.place.phase → Sees x.outcome m → Sees y.outcome n → m ≤ n

-- On a wall each user's commands end by the user's entries in the wall's hall; what its client declines, and which posts
-- it reads, goes by the hall's access list; each post was posted by a command; each command sees at least as
-- much as those of earlier phases; and each record of the wall that has a history stands for the first leaves of the hall.
pub record EndsByHall (d : Digest) (script : Script) (users : List ℕ) (start : RunView) (heards : List Heard)
    (world : World) (wall : ℕ) (hall : standing.Hall) : Type 0 where
  pub tells : (user : ℕ) → IsUser users user
      → TellsAll d hall.facts (start.client user) (stream user heards) (turns d hall.facts user hall.entries)
  pub listed : (user : ℕ) → IsUser users user → AreByList d (the_wall script wall).depth hall.facts.owner wall
      (IsPosted d start.client heards) hall.leaves (start.client user) (stream user heards)
  pub posts : (k : ℕ) (leaf : Leaf) → slice_get hall.leaves k ≡ Some leaf → is_change leaf.op.kind ≡ false
      → (text : Text) × IsPosted d start.client heards leaf.op text
  pub phased : InPhaseOrder wall (all_dids d start.client heards)
  pub stories : (r : Took) (L : List Leaf) → IsIn (records_of world) r → r.wall ≡ wall → story world r ≡ Some L
      → L ≡ take r.size hall.leaves

-- No command is rejected or lost, nor what it asked for keys; all end by the halls; and the audit finds all sound.
pub record IsUntouched (d : Digest) (script : Script) (wires wires' : List WireView) (world : World)
    (halls : List standing.Hall) (outcomes : Outcomes) (run : Whole d script wires wires' world halls outcomes)
    : Type 0 where
  pub calm : list_any fails outcomes.commands ≡ false
  pub ended : AllZip (EndsByHall d script run.users (opening_run script run.users run.walls wires) run.run.heards world)
      run.walls halls
  pub sound : outcomes.audit ≡ lines.Sound (count_records world) (count_grounded world)
