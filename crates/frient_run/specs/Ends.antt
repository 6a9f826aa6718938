-- How a call of the program ends: what came of its words, its source and its wires, what was said of it, and what was
-- handed out.
use Rattle.std.specs.Prelude.{◌≡◌, ℕ, List, [], length, map}
use Rattle.fr_edges.specs.Source.{SourceView}
use Rattle.fr_edges.specs.Sink.{SinkView}
use Rattle.fr_edges.specs.Wire.{WireView}
use Rattle.hall_core.specs.Standing as standing
use Rattle.script_read.specs.declared.script.DigestName.{DigestName}
use Rattle.script_read.specs.declared.script.DigestName.TheVariants as names
use Rattle.script_read.specs.declared.script.Script.{Script}
use Rattle.script_read.specs.Limits.{IsScript}
use Rattle.script_form.specs.declared.outcome.AuditLine.TheVariants as lines
use Rattle.script_form.specs.declared.outcome.Outcomes.{Outcomes}
use Rattle.script_form.specs.Report.{report_of}
use Rattle.script_form.specs.Summary.{summary_of}
use Rattle.script_form.specs.Status.{status_of}
use Rattle.frient_edges.specs.Output.{Spoke}
use Rattle.frient_script.specs.declared.choice.Chosen.{Chosen}
use Rattle.frient_script.specs.declared.choice.Form.{Form}
use Rattle.frient_script.specs.declared.choice.Form.TheVariants as forms
use Rattle.frient_script.specs.Choice.{IsGiven, IsUnread, Refuses}
use Rattle.frient_run.specs.declared.ended.Ended.{Ended}
use Rattle.frient_run.specs.declared.ended.Halls.{Halls}
use Rattle.frient_run.specs.declared.ended.Halls.TheVariants as halls
use Rattle.frient_run.specs.declared.fate.Fate.{Fate}
use Rattle.frient_run.specs.declared.fate.Fate.TheVariants as fates
use Rattle.frient_run.specs.declared.fate.Told.{Told}
use Rattle.frient_run.specs.declared.running.Run.{Run}
use Rattle.frient_run.specs.Digests.{digest_by}
use Rattle.run_laws.specs.Straight.{AreStraight, IsUntouched}
use Rattle.run_laws.specs.Whole.{Whole}

-- ---- halls

-- The halls are under this digest, and these are they.
abbrev pub AreHalls : DigestName → Halls → List standing.Hall → Type 0
AreHalls names.Sha (halls.Sha all) list = all.items ≡ list
AreHalls names.Sha (halls.Short all) list = ⊥
AreHalls names.Short (halls.Sha all) list = ⊥
AreHalls names.Short (halls.Short all) list = all.items ≡ list

-- ---- what came of a call

-- what tells the run of a script in a form
abbrev pub text_by : Form → Script → Outcomes → List ℕ
text_by forms.Report script outcomes = report_of script outcomes
text_by forms.Summary script outcomes = summary_of outcomes

-- A script was run over the wires: the one that the words ask for, read to the end of the source or generated. Over straight
-- wires nothing was rejected, lost or found.
pub record HasRun (words : List (List ℕ)) (before now : SourceView) (wires wires' : List WireView) (told : Told) : Type 0 where
  pub script : Script
  pub form : Form
  pub limits : IsScript script
  pub given : IsGiven words before now script form
  pub list : List standing.Hall
  pub halls : AreHalls script.digest told.halls list
  pub whole : Whole (digest_by script.digest) script wires wires' told.world list told.outcomes
  pub untouched : AreStraight wires
      → IsUntouched (digest_by script.digest) script wires wires' told.world list told.outcomes whole
  pub status : told.status ≡ status_of told.outcomes
  pub text : told.text ≡ text_by form script told.outcomes

-- Of a want of memory nothing more is said. Where no script was run the wires are as they were.
abbrev pub Happened : List (List ℕ) → SourceView → SourceView → List WireView → List WireView → Fate → Type 0
Happened words before now wires wires' (fates.Ran told) = HasRun words before now wires wires' told
Happened words before now wires wires' (fates.Refused line) = Refuses words before now line × (wires' ≡ wires)
Happened words before now wires wires' fates.Unread = IsUnread words before now × (wires' ≡ wires)
Happened words before now wires wires' fates.Starved = Unit {0}

-- ---- what was said

-- Nothing is written where a read failed or memory was wanting. Else the whole text is written, or a part of its front
-- where a write fails, which is then the status.
abbrev pub Says : SinkView → SinkView → Fate → ℕ → Type 0
Says before now (fates.Ran told) status = Spoke before now told.text told.status status
Says before now (fates.Refused line) status = Spoke before now line 2 status
Says before now fates.Unread status = (status ≡ 3) × (now ≡ before)
Says before now fates.Starved status = (status ≡ 6) × (now ≡ before)

-- ---- what was handed out

pub record HandsNothing (ended : Ended) : Type 0 where
  pub users : ended.world.users ≡ []
  pub walls : ended.world.walls ≡ []
  pub halls : AreHalls names.Sha ended.halls []
  pub outcomes : ended.outcomes ≡ record { commands = []; walls = []; audit = lines.Sound 0 0 }

pub record HandsRun (told : Told) (ended : Ended) : Type 0 where
  pub world : ended.world ≡ told.world
  pub halls : ended.halls ≡ told.halls
  pub outcomes : ended.outcomes ≡ told.outcomes

abbrev pub HandsOut : Fate → Ended → Type 0
HandsOut (fates.Ran told) ended = HandsRun told ended
HandsOut (fates.Refused line) ended = HandsNothing ended
HandsOut fates.Unread ended = HandsNothing ended
HandsOut fates.Starved ended = HandsNothing ended

-- ---- a call

-- A call with these words came to one of four ends: a script was run; words or script were refused; the source couldn't be
-- read; or memory was wanting.
pub record Ends (words : List (List ℕ)) (source source' : SourceView) (sink sink' : SinkView)
    (wires wires' : List WireView) (ended : Ended) : Type 0 where
  pub fate : Fate
  pub happened : Happened words source source' wires wires' fate
  pub said : Says sink sink' fate ended.status
  pub handed : HandsOut fate ended

-- ---- steps

module _ {W : Type 0} where
  -- A script was run over these wires and came to this.
  pub record Came (script : Script) (view : W → WireView) (wires : List W) (run : Run W) : Type 0 where
    pub list : List standing.Hall
    pub halls : AreHalls script.digest run.halls list
    pub whole : Whole (digest_by script.digest) script (map view wires) (map view run.wires.items) run.world list
        run.outcomes
    pub sixteen : length run.wires.items ≡ 16

  -- The script that was chosen was run over these wires and came to this, told in its form, and left these wires.
  pub record Tells (chosen : Chosen) (view : W → WireView) (wires : List W) (told : Told) (left : List W) : Type 0 where
    pub list : List standing.Hall
    pub halls : AreHalls chosen.script.digest told.halls list
    pub whole : Whole (digest_by chosen.script.digest) chosen.script (map view wires) (map view left) told.world list
        told.outcomes
    pub status : told.status ≡ status_of told.outcomes
    pub text : told.text ≡ text_by chosen.form chosen.script told.outcomes
    pub sixteen : length left ≡ 16

  abbrev pub RunsOver : Chosen → (W → WireView) → List W → List W → Fate → Type 0
  RunsOver chosen view wires wires' (fates.Ran told) = Tells chosen view wires told wires'
  RunsOver chosen view wires wires' (fates.Refused line) = ⊥
  RunsOver chosen view wires wires' fates.Unread = ⊥
  RunsOver chosen view wires wires' fates.Starved = Unit {0}

-- so many wires are left, unless memory was wanting
abbrev pub HasPlaces : Fate → ℕ → Type 0
HasPlaces fates.Starved count = Unit {0}
HasPlaces (fates.Ran told) count = count ≡ 16
HasPlaces (fates.Refused line) count = count ≡ 16
HasPlaces fates.Unread count = count ≡ 16
