-- What a command counts as, and the status of a run.
use Rattle.std.specs.Prelude.{ℕ, Bool, true, false, if◌then◌else◌}
use Rattle.std.specs.List.{list_any}
use Rattle.script_form.specs.declared.outcome.CommandEnd.{CommandEnd}
use Rattle.script_form.specs.declared.outcome.CommandEnd.TheVariants as ends
use Rattle.script_form.specs.declared.outcome.KeysEnd.{KeysEnd}
use Rattle.script_form.specs.declared.outcome.KeysEnd.TheVariants as keys
use Rattle.script_form.specs.declared.outcome.Outcome.{Outcome}
use Rattle.script_form.specs.declared.outcome.Outcomes.{Outcomes}
use Rattle.script_form.specs.declared.outcome.AuditLine.{AuditLine}
use Rattle.script_form.specs.declared.outcome.AuditLine.TheVariants as audits
use Rattle.script_form.specs.declared.counts.Count.{Count}
use Rattle.script_form.specs.declared.counts.Count.TheVariants as counts

-- what a command counts as by its own end
abbrev pub count_of_end : CommandEnd → Count
count_of_end (ends.Accepted size from) = counts.Taken
count_of_end (ends.Same size) = counts.Taken
count_of_end (ends.Refused cause number) = counts.Refused
count_of_end (ends.Rejected verdict) = counts.Rejected
count_of_end ends.Lost = counts.Lost
count_of_end (ends.Declined decline) = counts.Declined

-- A command whose exchange for keys was rejected or lost counts so.
abbrev pub count_by_keys : KeysEnd → CommandEnd → Count
count_by_keys keys.Fine end = count_of_end end
count_by_keys (keys.Rejected verdict) end = counts.Rejected
count_by_keys keys.Lost end = counts.Lost

abbrev pub count_of : Outcome → Count
count_of o = count_by_keys o.keys o.end

-- rejected or lost
abbrev pub is_failure : Count → Bool
is_failure counts.Taken = false
is_failure counts.Declined = false
is_failure counts.Refused = false
is_failure counts.Rejected = true
is_failure counts.Lost = true

abbrev pub fails : Outcome → Bool
fails o = is_failure (count_of o)

-- 4 for a collision and 5 for a forgery, else 1 where a command was rejected or lost, and else 0
abbrev pub status_by : AuditLine → Bool → ℕ
status_by (audits.Sound records grounded) fail = if fail then 1 else 0
status_by (audits.Collision a b) fail = 4
status_by (audits.Forged user wall op) fail = 5

unfoldable pub status_of : Outcomes → ℕ
status_of run = status_by run.audit (list_any fails run.commands)
