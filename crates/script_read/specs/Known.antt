-- Numbers that are listed: owners first, then phases, then tamper lines.
use Rattle.std.specs.Prelude.{ℕ, List, ⊤, not, Ok}
use Rattle.script_read.specs.declared.refusal.Listed.TheVariants.{User, Wall}
use Rattle.script_read.specs.declared.refusal.ScriptRefusal.TheVariants.{Unknown}
use Rattle.script_read.specs.declared.script.Command.{Command}
use Rattle.script_read.specs.declared.script.Command.TheVariants as commands
use Rattle.script_read.specs.declared.script.TamperLine.{TamperLine}
use Rattle.script_read.specs.declared.script.TamperLine.TheVariants as lines
use Rattle.script_read.specs.declared.script.ScriptWall.{ScriptWall}
use Rattle.script_read.specs.declared.script.ScriptSession.{ScriptSession}
use Rattle.script_read.specs.declared.script.Script.{Script}
use Rattle.script_read.specs.Refusal.{Checked, ◌>>=◌, refused}
use Rattle.script_read.specs.Elements.{every}
use Rattle.script_read.specs.Users.{has_user}
use Rattle.script_read.specs.Walls.{has_wall}

abbrev pub user_known : Script → ℕ → Checked ⊤
user_known s n = refused (Unknown User n) (not (has_user s.users n))

abbrev pub wall_known : Script → ℕ → Checked ⊤
wall_known s n = refused (Unknown Wall n) (not (has_wall s.walls n))

-- the wall first
unfoldable pub both_known : Script → ℕ → ℕ → Checked ⊤
both_known s wall user = do
  listed ← wall_known s wall
  user_known s user

unfoldable pub command_known : Script → Command → Checked ⊤
command_known s (commands.Post wall text) = wall_known s wall
command_known s (commands.Read wall) = wall_known s wall
command_known s (commands.ReadAll wall) = wall_known s wall
command_known s (commands.Admit wall user role) = both_known s wall user
command_known s (commands.Remove wall user) = both_known s wall user

unfoldable pub session_known : Script → ScriptSession → Checked ⊤
session_known s session = do
  listed ← user_known s session.user
  every (command_known s) session.commands

unfoldable pub serve_known : Script → ℕ → List ℕ → Checked ⊤
serve_known s wall users = do
  listed ← wall_known s wall
  every (user_known s) users

unfoldable pub line_known : Script → TamperLine → Checked ⊤
line_known s (lines.Flip phase session command byte mask) = Ok tt
line_known s (lines.Cut phase session command keep) = Ok tt
line_known s (lines.Add phase session command bytes) = Ok tt
line_known s (lines.From phase session command from) = Ok tt
line_known s (lines.Branch phase wall name of size) = wall_known s wall
line_known s (lines.Serve phase wall branch users) = serve_known s wall users
line_known s (lines.Forge phase wall branch author seq epoch view body) = both_known s wall author
line_known s (lines.Replay phase wall branch of position) = wall_known s wall
line_known s (lines.Twin phase wall branch position) = wall_known s wall

unfoldable pub owner_known : Script → ScriptWall → Checked ⊤
owner_known s wall = user_known s wall.owner

unfoldable pub all_known : Script → Checked ⊤
all_known s = do
  owners ← every (owner_known s) s.walls
  phases ← every (every (session_known s)) s.phases
  every (line_known s) s.tamper
