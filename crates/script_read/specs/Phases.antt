-- Phases, which are lists of sessions, and how many commands may still come.
use Rattle.std.specs.Prelude.{ℕ, ◌-◌, List, [], length, Bool, ◌==◌, fold, codes, Ok}
use Rattle.std.specs.List.{list_any}
use Rattle.serde_json.specs.Data.{Data}
use Rattle.serde_json.specs.Find.{as_array}
use Rattle.script_read.specs.declared.refusal.ScriptRefusal.TheVariants.{Field}
use Rattle.script_read.specs.declared.script.ScriptSession.{ScriptSession}
use Rattle.script_read.specs.Refusal.{Checked, ◌>>=◌, found, refused}
use Rattle.script_read.specs.Fields.{listed, an_object, key, sized_list, no_further}
use Rattle.script_read.specs.Elements.{each}
use Rattle.script_read.specs.Commands.{command_of}

-- how many commands may come behind those of these sessions, and behind those of these phases
abbrev pub room_after : ℕ → List ScriptSession → ℕ
room_after room sessions = fold (λ left session. left - length session.commands) room sessions

abbrev pub room_left : ℕ → List (List ScriptSession) → ℕ
room_left room phases = fold room_after room phases

-- one of the sessions is the user's
abbrev pub has_session : List ScriptSession → ℕ → Bool
has_session sessions user = list_any (λ session. session.user == user) sessions

-- A session behind those of its phase that came before: of another user than they.
unfoldable pub session_of : ℕ → List ScriptSession → Data → Checked ScriptSession
session_of room before d = do
  o ← an_object (codes "phases") d
  user ← key (codes "user") listed o
  fresh ← refused (Field (codes "user")) (has_session before user)
  ds ← key (codes "do") as_array o
  commands ← each (command_of (room_after room before)) [] ds
  only ← no_further 2 o
  Ok (record { user = user; commands = commands })

-- A phase behind those that came before: a list of at most 16 sessions.
unfoldable pub phase_of : ℕ → List (List ScriptSession) → Data → Checked (List ScriptSession)
phase_of room before d = do
  list ← found (codes "phases") (as_array d)
  ds ← sized_list (codes "sessions") 0 16 list
  each (session_of (room_left room before)) [] ds
