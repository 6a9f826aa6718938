-- What is asked of a wall by a run's commands admits none but the run's users.
use Rattle.std.specs.Prelude.{ℕ, List}
use Rattle.op_types.specs.declared.kind.Kind.{Kind}
use Rattle.op_types.specs.declared.kind.Kind.TheVariants as kinds
use Rattle.op_types.specs.declared.op.Op.{Op}
use Rattle.hall_core.specs.declared.ask.Ask.{Ask}
use Rattle.hall_core.specs.declared.ask.Ask.TheVariants as asks
use Rattle.script_read.specs.declared.script.Command.{Command}
use Rattle.script_read.specs.declared.script.Command.TheVariants as commands
use Rattle.session_laws.specs.Histories.{IsUser}

-- a user whom a command, or an operation, admits is one of these
abbrev pub AdmitsUsers : List ℕ → Command → Type 0
AdmitsUsers users (commands.Post wall text) = Unit {0}
AdmitsUsers users (commands.Read wall) = Unit {0}
AdmitsUsers users (commands.ReadAll wall) = Unit {0}
AdmitsUsers users (commands.Admit wall user role) = IsUser users user
AdmitsUsers users (commands.Remove wall user) = Unit {0}

abbrev pub IsOfUsers : List ℕ → Kind → Type 0
IsOfUsers users (kinds.Post body) = Unit {0}
IsOfUsers users (kinds.Admit user role slot wraps) = IsUser users user
IsOfUsers users (kinds.Remove user slot wraps) = Unit {0}

-- where an operation is asked for, this holds of it
abbrev pub AsksFor : (Op → Type 0) → Ask → Type 0
AsksFor P asks.Look = Unit {0}
AsksFor P (asks.Append op) = P op

abbrev pub IsOpOfUsers : List ℕ → Op → Type 0
IsOpOfUsers users op = IsOfUsers users op.kind
