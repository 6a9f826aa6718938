-- What a script's phases have users do.
use Rattle.std.specs.Prelude.{ℕ, ◌+◌, List, [], ◌∷◌, ◌++◌, nat_eq, cond}
use Rattle.std.specs.List.{flat_map}
use Rattle.script_read.specs.declared.script.Command.{Command}
use Rattle.script_read.specs.declared.script.ScriptSession.{ScriptSession}
use Rattle.session_laws.specs.Doing.{Task, tasks_of}

-- the tasks of a phase's sessions, of which the first has this number
abbrev pub tasks_in : ℕ → ℕ → List ScriptSession → List Task
tasks_in phase number [] = []
tasks_in phase number (s ∷ sessions) = tasks_of phase number s.user s.commands ++ tasks_in phase (number + 1) sessions

-- the tasks of phases, of which the first has this number
abbrev pub tasks_from : ℕ → List (List ScriptSession) → List Task
tasks_from phase [] = []
tasks_from phase (sessions ∷ phases) = tasks_in phase 1 sessions ++ tasks_from (phase + 1) phases

-- the numbers of phases, of which the first has this one
abbrev pub numbers_from : ℕ → List (List ScriptSession) → List ℕ
numbers_from phase [] = []
numbers_from phase (sessions ∷ phases) = phase ∷ numbers_from (phase + 1) phases

-- a user's commands in a phase, and in several
abbrev pub commands_in : ℕ → List ScriptSession → List Command
commands_in user [] = []
commands_in user (s ∷ sessions) = cond (nat_eq s.user user) s.commands [] ++ commands_in user sessions

abbrev pub commands_of : ℕ → List (List ScriptSession) → List Command
commands_of user phases = flat_map (commands_in user) phases
