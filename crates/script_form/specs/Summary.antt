-- The summary of a run: how many commands there were of each kind, each wall's size, whether the run is
-- sound, and the status.
use Rattle.std.specs.Prelude.{◌≡◌, ℕ, ◌+◌, List, ◌++◌, length, codes, Bool, true, false, count_by}
use Rattle.std.specs.List.{flat_map}
use Rattle.script_form.specs.declared.counts.Count.{Count}
use Rattle.script_form.specs.declared.counts.Count.TheVariants as counts
use Rattle.script_form.specs.declared.outcome.Outcome.{Outcome}
use Rattle.script_form.specs.declared.outcome.Outcomes.{Outcomes}
use Rattle.script_form.specs.declared.outcome.WallEnd.{WallEnd}
use Rattle.script_form.specs.declared.outcome.AuditLine.{AuditLine}
use Rattle.script_form.specs.declared.outcome.AuditLine.TheVariants as audits
use Rattle.script_form.specs.Status.{count_of, status_of}
use Rattle.script_form.specs.Report.{newline, labelled, collision_line, forgery_line, status_line}

-- two counts are the same
abbrev pub same_count : Count → Count → Bool
same_count counts.Taken counts.Taken = true
same_count counts.Declined counts.Declined = true
same_count counts.Refused counts.Refused = true
same_count counts.Rejected counts.Rejected = true
same_count counts.Lost counts.Lost = true
same_count _ _ = false

abbrev pub counts_as : Count → Outcome → Bool
counts_as what o = same_count what (count_of o)

-- how many of the commands count so
abbrev pub how_many : Count → List Outcome → ℕ
how_many what commands = count_by (counts_as what) commands

-- each command counts once
abbrev pub AddUp : List Outcome → Type 0
AddUp all =
    how_many counts.Taken all + how_many counts.Declined all + how_many counts.Refused all
    + how_many counts.Rejected all + how_many counts.Lost all
    ≡ length all

unfoldable pub counts_line : List Outcome → List ℕ
counts_line all =
    labelled (codes "summary commands ") (length all)
    ++ labelled (codes " taken ") (how_many counts.Taken all)
    ++ labelled (codes " declined ") (how_many counts.Declined all)
    ++ labelled (codes " refused ") (how_many counts.Refused all)
    ++ labelled (codes " rejected ") (how_many counts.Rejected all)
    ++ labelled (codes " lost ") (how_many counts.Lost all)
    ++ newline

unfoldable pub size_line : WallEnd → List ℕ
size_line w = labelled (codes "wall ") w.wall ++ labelled (codes " size ") w.size ++ newline

unfoldable pub sound_line : AuditLine → List ℕ
sound_line (audits.Sound records grounded) = codes "sound\n"
sound_line (audits.Collision a b) = collision_line a b
sound_line (audits.Forged user wall op) = forgery_line user wall op

unfoldable pub summary_of : Outcomes → List ℕ
summary_of run = counts_line run.commands ++ flat_map size_line run.walls ++ sound_line run.audit
    ++ status_line (status_of run)
