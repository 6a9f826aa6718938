-- The report of a run: for each command a line and a line for each position that it shows, then a line
-- for each wall, what the audit found, and the status.
use Rattle.std.specs.Prelude.{ℕ, zero, suc, List, [], ◌∷◌, ◌++◌, codes, decimal, if◌then◌else◌, ◌==◌, nat_eq, Option, Some, None, slice_get, option_and_then}
use Rattle.std.specs.Option.{option_map}
use Rattle.std.specs.List.{flat_map, list_all}
use Rattle.hex.specs.Hex.{encode_lower}
use Rattle.op_types.specs.declared.roles.TheConstants.{READER}
use Rattle.msg_form.specs.declared.verdict.Verdict.{Verdict}
use Rattle.msg_form.specs.declared.verdict.Detail.{Detail}
use Rattle.msg_form.specs.declared.verdict.Detail.TheVariants as details
use Rattle.msg_form.specs.Names.{decline_name, verdict_name, verdict_position, verdict_detail}
use Rattle.script_read.specs.declared.script.Command.{Command}
use Rattle.script_read.specs.declared.script.Command.TheVariants as commands
use Rattle.script_read.specs.declared.script.ScriptSession.{ScriptSession}
use Rattle.script_read.specs.declared.script.Script.{Script}
use Rattle.script_read.specs.Fields.{is_printable}
use Rattle.script_form.specs.declared.outcome.CommandEnd.{CommandEnd}
use Rattle.script_form.specs.declared.outcome.CommandEnd.TheVariants as ends
use Rattle.script_form.specs.declared.outcome.KeysEnd.{KeysEnd}
use Rattle.script_form.specs.declared.outcome.KeysEnd.TheVariants as keys
use Rattle.script_form.specs.declared.outcome.ShownKind.{ShownKind}
use Rattle.script_form.specs.declared.outcome.ShownKind.TheVariants as kinds
use Rattle.script_form.specs.declared.outcome.Shown.{Shown}
use Rattle.script_form.specs.declared.outcome.Outcome.{Outcome}
use Rattle.script_form.specs.declared.outcome.Outcomes.{Outcomes}
use Rattle.script_form.specs.declared.outcome.WallEnd.{WallEnd}
use Rattle.script_form.specs.declared.outcome.AuditLine.{AuditLine}
use Rattle.script_form.specs.declared.outcome.AuditLine.TheVariants as audits
use Rattle.script_form.specs.Status.{status_of}

abbrev pub newline : List ℕ
newline = 10 ∷ []

-- ---- which command of the script an outcome is of

-- the element at a place that is counted from 1
abbrev pub nth : {A : Type 0} → List A → ℕ → Option A
nth xs zero = None
nth xs (suc n) = slice_get xs n

-- a user and what it asks for
abbrev pub Asked : Type 0
Asked = ℕ × Command

abbrev pub asked_in_session : ScriptSession → ℕ → Option Asked
asked_in_session session n = option_map (λ command. (session.user, command)) (nth session.commands n)

unfoldable pub asked : Script → Outcome → Option Asked
asked s o = option_and_then (λ phase. option_and_then (λ session. asked_in_session session o.command)
    (nth phase o.session)) (nth s.phases o.phase)

-- ---- a command's line

abbrev pub wall_asked : Command → ℕ
wall_asked (commands.Post wall text) = wall
wall_asked (commands.Read wall) = wall
wall_asked (commands.ReadAll wall) = wall
wall_asked (commands.Admit wall user role) = wall
wall_asked (commands.Remove wall user) = wall

abbrev pub verb_name : Command → List ℕ
verb_name (commands.Post wall text) = codes "post"
verb_name (commands.Read wall) = codes "read"
verb_name (commands.ReadAll wall) = codes "read_all"
verb_name (commands.Admit wall user role) = codes "admit"
verb_name (commands.Remove wall user) = codes "remove"

-- a number behind its label
unfoldable pub labelled : List ℕ → ℕ → List ℕ
labelled label n = label ++ decimal n

unfoldable pub place_text : Outcome → List ℕ
place_text o = labelled (codes "p") o.phase ++ labelled (codes " s") o.session ++ labelled (codes " c") o.command

unfoldable pub asked_text : Option Asked → List ℕ
asked_text None = []
asked_text (Some a) = labelled (codes " user ") a.0 ++ labelled (codes " wall ") (wall_asked a.1)
    ++ codes " " ++ verb_name a.1

-- a cause's name by its number
abbrev pub cause_name : ℕ → List ℕ
cause_name cause =
    if cause == 1 then codes "WrongWall"
    else if cause == 2 then codes "NotAllowed"
    else if cause == 3 then codes "StaleEpoch"
    else if cause == 4 then codes "Replayed"
    else if cause == 5 then codes "BadChange"
    else if cause == 6 then codes "LateView"
    else if cause == 7 then codes "BadSignature"
    else if cause == 8 then codes "BadView"
    else if cause == 9 then codes "Full"
    else codes "BadRequest"

-- the second number of a stale epoch and of a replayed operation
unfoldable pub cause_number : ℕ → ℕ → List ℕ
cause_number cause number =
    if cause == 3 then labelled (codes " now ") number
    else if cause == 4 then labelled (codes " next ") number
    else []

unfoldable pub at_text : Option ℕ → List ℕ
at_text None = []
at_text (Some at) = labelled (codes " at ") at

unfoldable pub detail_text : Detail → List ℕ
detail_text details.Nothing = []
detail_text (details.Now now) = labelled (codes " now ") now
detail_text (details.Next next) = labelled (codes " next ") next
detail_text (details.Counts found needed) = labelled (codes " found ") found ++ labelled (codes " needed ") needed

-- a verdict's name, then its position, then its numbers
unfoldable pub verdict_text : Verdict → List ℕ
verdict_text v = verdict_name v ++ at_text (verdict_position v) ++ detail_text (verdict_detail v)

unfoldable pub end_text : CommandEnd → List ℕ
end_text (ends.Accepted size from) = labelled (codes "accepted size ") size ++ labelled (codes " from ") from
end_text (ends.Same size) = labelled (codes "same size ") size
end_text (ends.Refused cause number) = codes "refused " ++ cause_name cause ++ cause_number cause number
end_text (ends.Rejected verdict) = codes "rejected " ++ verdict_text verdict
end_text ends.Lost = codes "lost"
end_text (ends.Declined decline) = codes "declined " ++ decline_name decline

unfoldable pub command_line : Script → Outcome → List ℕ
command_line s o = place_text o ++ asked_text (asked s o) ++ codes ": " ++ end_text o.end ++ newline

-- ---- what it shows

-- a body as it is where each byte may be printed, and else in hexadecimal
unfoldable pub body_text : List ℕ → List ℕ
body_text body = if list_all is_printable body then codes "text " ++ body else codes "bytes " ++ encode_lower body

abbrev pub role_name : ℕ → List ℕ
role_name role = if nat_eq role READER then codes "reader" else codes "writer"

unfoldable pub kind_text : ShownKind → List ℕ
kind_text (kinds.Post body) = codes "post " ++ body_text body
kind_text kinds.Unreadable = codes "post unreadable"
kind_text (kinds.Admit user role) = labelled (codes "admit ") user ++ codes " " ++ role_name role
kind_text (kinds.Remove user) = labelled (codes "remove ") user

unfoldable pub shown_line : Shown → List ℕ
shown_line s = labelled (codes "  ") s.position ++ labelled (codes " user ") s.author ++ codes " "
    ++ kind_text s.what ++ newline

-- a line where the exchange for keys behind a command was rejected or lost
unfoldable pub keys_line : KeysEnd → List ℕ
keys_line keys.Fine = []
keys_line (keys.Rejected verdict) = codes "  keys rejected " ++ verdict_text verdict ++ newline
keys_line keys.Lost = codes "  keys lost\n"

unfoldable pub outcome_text : Script → Outcome → List ℕ
outcome_text s o = command_line s o ++ flat_map shown_line o.shown ++ keys_line o.keys

-- ---- the last lines

unfoldable pub root_text : WallEnd → List ℕ
root_text w = if w.size == 0 then codes "none" else encode_lower w.root

unfoldable pub wall_line : WallEnd → List ℕ
wall_line w = labelled (codes "wall ") w.wall ++ labelled (codes " size ") w.size ++ codes " root "
    ++ root_text w ++ newline

unfoldable pub collision_line : List ℕ → List ℕ → List ℕ
collision_line a b = codes "collision " ++ encode_lower a ++ codes " " ++ encode_lower b ++ newline

unfoldable pub forgery_line : ℕ → ℕ → List ℕ → List ℕ
forgery_line user wall op = labelled (codes "forged user ") user ++ labelled (codes " wall ") wall
    ++ codes " op " ++ encode_lower op ++ newline

unfoldable pub audit_line : AuditLine → List ℕ
audit_line (audits.Sound records grounded) = labelled (codes "sound records ") records
    ++ labelled (codes " grounded ") grounded ++ newline
audit_line (audits.Collision a b) = collision_line a b
audit_line (audits.Forged user wall op) = forgery_line user wall op

unfoldable pub status_line : ℕ → List ℕ
status_line status = labelled (codes "status ") status ++ newline

unfoldable pub report_of : Script → Outcomes → List ℕ
report_of s run = flat_map (outcome_text s) run.commands ++ flat_map wall_line run.walls
    ++ audit_line run.audit ++ status_line (status_of run)
