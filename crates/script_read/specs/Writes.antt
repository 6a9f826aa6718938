-- Commands that sign an operation, against what a user's key can sign.
use Rattle.std.specs.Prelude.{ℕ, ◌^◌, ◌==◌, nat_lt, min, List, Bool, true, false, if◌then◌else◌, fold, count_by, sum_by, ⊤, Option, Some, None, Ok, Err}
use Rattle.script_read.specs.declared.refusal.ScriptRefusal.TheVariants.{TooManyWrites}
use Rattle.script_read.specs.declared.script.Command.{Command}
use Rattle.script_read.specs.declared.script.Command.TheVariants.{Post, Read, ReadAll, Admit, Remove}
use Rattle.script_read.specs.declared.script.ScriptUser.{ScriptUser}
use Rattle.script_read.specs.declared.script.ScriptSession.{ScriptSession}
use Rattle.script_read.specs.declared.script.Script.{Script}
use Rattle.script_read.specs.Refusal.{Checked}

-- posts, admissions and removals
abbrev pub is_write : Command → Bool
is_write (Post wall text) = true
is_write (Read wall) = false
is_write (ReadAll wall) = false
is_write (Admit wall user role) = true
is_write (Remove wall user) = true

-- the user's writes in a session, and in a phase
abbrev pub session_writes : ℕ → ScriptSession → ℕ
session_writes user session = if session.user == user then count_by is_write session.commands else 0

abbrev pub phase_writes : ℕ → List ScriptSession → ℕ
phase_writes user sessions = sum_by (session_writes user) sessions

-- the user's writes in all phases
abbrev pub writes : Script → ℕ → ℕ
writes s user = sum_by (phase_writes user) s.phases

-- How many messages a key of an LMS typecode signs: 2 to the height of its tree, which is 5 for the
-- typecode 5 and 10 for the typecode 6 (RFC 8554, section 5.1).
abbrev pub signatures : ℕ → ℕ
signatures lms = if lms == 5 then 2 ^ 5 else 2 ^ 10

unfoldable pub overspends : Script → ScriptUser → Bool
overspends s u = nat_lt (signatures u.lms) (writes s u.user)

-- the lower of a number and of the one so far
abbrev pub lower : Option ℕ → ℕ → Option ℕ
lower None n = Some n
lower (Some m) n = Some (min m n)

-- the least user who overspends
unfoldable pub overspender : Script → Option ℕ
overspender s = fold (λ least u. if overspends s u then lower least u.user else least) None s.users

abbrev pub no_overspender : Option ℕ → Checked ⊤
no_overspender None = Ok tt
no_overspender (Some user) = Err (TooManyWrites user)

unfoldable pub signs_enough : Script → Checked ⊤
signs_enough s = no_overspender (overspender s)
