-- Which script a call runs, and in what form its run is told.
use Rattle.std.specs.Prelude.{◌≡◌, ◌≢◌, ◌⊎◌, ℕ, List, [], codes, Result, Ok, Err}
use Rattle.fr_edges.specs.Source.{SourceView}
use Rattle.script_read.specs.declared.refusal.ScriptRefusal.{ScriptRefusal}
use Rattle.script_read.specs.declared.refusal.ScriptRefusal.TheVariants.{Field}
use Rattle.script_read.specs.declared.script.Script.{Script}
use Rattle.script_read.specs.Limits.{IsScript}
use Rattle.script_read.specs.Reading.{script_at}
use Rattle.script_form.specs.Generated.{generated_of}
use Rattle.script_form.specs.Refused.{refused_line}
use Rattle.frient_words.specs.declared.words.Wish.TheVariants as wishes
use Rattle.frient_words.specs.Words.{Asks, AsksNothing}
use Rattle.frient_edges.specs.Input.{Fails, Fed}
use Rattle.frient_script.specs.declared.choice.Form.{Form}
use Rattle.frient_script.specs.declared.choice.Form.TheVariants as forms
use Rattle.frient_script.specs.declared.choice.Chosen.{Chosen}
use Rattle.frient_script.specs.declared.choice.Unchosen.{Unchosen}
use Rattle.frient_script.specs.declared.choice.Unchosen.TheVariants as unchosen

-- ---- a script

-- The bytes spell this script, and it has no tamper lines.
pub record Spells (bytes : List ℕ) (script : Script) : Type 0 where
  pub read : script_at bytes ≡ Ok script
  pub untampered : script.tamper ≡ []

-- The words ask for the script of the source, and this is it.
pub record IsRead (words : List (List ℕ)) (before now : SourceView) (script : Script) : Type 0 where
  pub asked : Asks words wishes.Script
  pub bytes : List ℕ
  pub fed : Fed before now bytes
  pub spelled : Spells bytes script

-- The words ask for the script of a number, and this is it. The source isn't read.
pub record IsGenerated (words : List (List ℕ)) (before now : SourceView) (script : Script) : Type 0 where
  pub number : ℕ
  pub asked : Asks words (wishes.Generated number)
  pub generated : script ≡ generated_of number
  pub unread : now ≡ before

-- The run of a script that is read is told by a report, that of a generated one by a summary.
abbrev pub IsGiven : List (List ℕ) → SourceView → SourceView → Script → Form → Type 0
IsGiven words before now script forms.Report = IsRead words before now script
IsGiven words before now script forms.Summary = IsGenerated words before now script

-- ---- no script

-- The words are refused. The source isn't read.
pub record RefusesWords (words : List (List ℕ)) (before now : SourceView) (line : List ℕ) : Type 0 where
  pub asked : AsksNothing words
  pub unread : now ≡ before
  pub said : line ≡ codes "refused words\n"

-- The bytes are refused for this: they spell no script, or one with tamper lines.
abbrev pub IsRefused : List ℕ → ScriptRefusal → Type 0
IsRefused bytes refusal = (script_at bytes ≡ Err refusal)
    ⊎ ((script : Script) × (script_at bytes ≡ Ok script) × (script.tamper ≢ []) × (refusal ≡ Field (codes "tamper")))

-- The words ask for the script of the source, and its bytes are refused.
pub record RefusesScript (words : List (List ℕ)) (before now : SourceView) (line : List ℕ) : Type 0 where
  pub asked : Asks words wishes.Script
  pub bytes : List ℕ
  pub fed : Fed before now bytes
  pub refusal : ScriptRefusal
  pub refused : IsRefused bytes refusal
  pub said : line ≡ refused_line refusal

abbrev pub Refuses : List (List ℕ) → SourceView → SourceView → List ℕ → Type 0
Refuses words before now line = RefusesWords words before now line ⊎ RefusesScript words before now line

-- The words ask for the script of the source, and a read failed.
pub record IsUnread (words : List (List ℕ)) (before now : SourceView) : Type 0 where
  pub asked : Asks words wishes.Script
  pub failed : Fails before now

-- ---- the choice

-- A choice is within the limits of scripts.
abbrev pub Chooses : List (List ℕ) → SourceView → SourceView → Result Chosen Unchosen → Type 0
Chooses words before now (Ok c) = IsScript c.script × IsGiven words before now c.script c.form
Chooses words before now (Err (unchosen.Refused line)) = Refuses words before now line
Chooses words before now (Err unchosen.Unread) = IsUnread words before now
Chooses words before now (Err unchosen.NoMemory) = Unit {0}

-- ---- steps

-- what the bytes of the source give
abbrev pub IsScriptOf : List ℕ → Result Script Unchosen → Type 0
IsScriptOf bytes (Ok script) = IsScript script × Spells bytes script
IsScriptOf bytes (Err (unchosen.Refused line)) = (refusal : ScriptRefusal) × IsRefused bytes refusal × (line ≡ refused_line refusal)
IsScriptOf bytes (Err unchosen.Unread) = ⊥
IsScriptOf bytes (Err unchosen.NoMemory) = Unit {0}

-- what the source gives
abbrev pub GivesScript : SourceView → SourceView → Result Script Unchosen → Type 0
GivesScript before now (Ok script) = IsScript script × ((bytes : List ℕ) × Fed before now bytes × Spells bytes script)
GivesScript before now (Err (unchosen.Refused line)) = (bytes : List ℕ) × Fed before now bytes
    × ((refusal : ScriptRefusal) × IsRefused bytes refusal × (line ≡ refused_line refusal))
GivesScript before now (Err unchosen.Unread) = Fails before now
GivesScript before now (Err unchosen.NoMemory) = Unit {0}

-- This line was made, unless memory was wanting.
abbrev pub SaysLine : List ℕ → Unchosen → Type 0
SaysLine said (unchosen.Refused line) = line ≡ said
SaysLine said unchosen.Unread = ⊥
SaysLine said unchosen.NoMemory = Unit {0}
