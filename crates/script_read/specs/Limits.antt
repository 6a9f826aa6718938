-- What holds of every script that is read.
use Rattle.std.specs.Prelude.{◌≡◌, ℕ, ◌≤◌, Bool, true, ◌==◌, List, length, ⊤}
use Rattle.std.specs.List.{All, IsDistinct, list_all, sum_by}
use Rattle.fr_bytes.specs.Parts.{IsWithin}
use Rattle.op_types.specs.declared.roles.TheConstants.{READER, WRITER}
use Rattle.script_read.specs.declared.script.Command.{Command}
use Rattle.script_read.specs.declared.script.Command.TheVariants as commands
use Rattle.script_read.specs.declared.script.TamperLine.{TamperLine}
use Rattle.script_read.specs.declared.script.TamperLine.TheVariants as lines
use Rattle.script_read.specs.declared.script.ScriptUser.{ScriptUser}
use Rattle.script_read.specs.declared.script.ScriptWall.{ScriptWall}
use Rattle.script_read.specs.declared.script.ScriptSession.{ScriptSession}
use Rattle.script_read.specs.declared.script.Script.{Script}
use Rattle.script_read.specs.Fields.{is_printable}
use Rattle.script_read.specs.Users.{has_user}
use Rattle.script_read.specs.Walls.{has_wall}
use Rattle.script_read.specs.Writes.{signatures, writes}

-- ---- ranges

-- a user's or a wall's number
abbrev pub IsNumber : ℕ → Type 0
IsNumber n = IsWithin 1 65535 n

pub record IsUser (u : ScriptUser) : Type 0 where
  pub number : IsNumber u.user
  pub lms : IsWithin 5 6 u.lms
  pub ots : IsWithin 1 4 u.ots

pub record IsWall (w : ScriptWall) : Type 0 where
  pub number : IsNumber w.wall
  pub owner : IsNumber w.owner
  pub f : w.f ≤ 31
  pub depth : IsWithin 1 6 w.depth
  pub ots : IsWithin 1 4 w.ots

-- a post's text
abbrev pub IsPost : List ℕ → Type 0
IsPost text = (length text ≤ 1024) × (list_all is_printable text ≡ true)

abbrev pub IsRole : ℕ → Type 0
IsRole role = IsWithin READER WRITER role

-- the particulars of a command behind its wall
abbrev pub HasRanges : Command → Type 0
HasRanges (commands.Post wall text) = IsNumber wall × IsPost text
HasRanges (commands.Read wall) = IsNumber wall
HasRanges (commands.ReadAll wall) = IsNumber wall
HasRanges (commands.Admit wall user role) = IsNumber wall × IsNumber user × IsRole role
HasRanges (commands.Remove wall user) = IsNumber wall × IsNumber user

pub record IsSession (session : ScriptSession) : Type 0 where
  pub user : IsNumber session.user
  pub commands : All HasRanges session.commands

-- ---- lists

abbrev pub same_user : ScriptUser → ScriptUser → Bool
same_user a b = a.user == b.user

abbrev pub same_wall : ScriptWall → ScriptWall → Bool
same_wall a b = a.wall == b.wall

abbrev pub same_session : ScriptSession → ScriptSession → Bool
same_session a b = a.user == b.user

pub record AreUsers (users : List ScriptUser) : Type 0 where
  pub few : IsWithin 1 32 (length users)
  pub all : All IsUser users
  pub distinct : IsDistinct same_user users

pub record AreWalls (walls : List ScriptWall) : Type 0 where
  pub few : IsWithin 1 8 (length walls)
  pub all : All IsWall walls
  pub distinct : IsDistinct same_wall walls

pub record IsPhase (sessions : List ScriptSession) : Type 0 where
  pub few : length sessions ≤ 16
  pub all : All IsSession sessions
  pub distinct : IsDistinct same_session sessions

-- how many commands the sessions of a phase have
abbrev pub commands_in : List ScriptSession → ℕ
commands_in sessions = sum_by (λ session. length session.commands) sessions

pub record ArePhases (phases : List (List ScriptSession)) : Type 0 where
  pub few : length phases ≤ 64
  pub all : All IsPhase phases
  pub room : sum_by commands_in phases ≤ 2048

-- ---- tamper lines

abbrev pub HasLineRanges : TamperLine → Type 0
HasLineRanges (lines.Flip phase session command byte mask) = IsWithin 1 255 mask
HasLineRanges (lines.Cut phase session command keep) = ⊤
HasLineRanges (lines.Add phase session command bytes) = IsWithin 1 1024 (length bytes)
HasLineRanges (lines.From phase session command from) = ⊤
HasLineRanges (lines.Branch phase wall name of size) = IsNumber wall × IsWithin 1 8 name
HasLineRanges (lines.Serve phase wall branch users) = IsNumber wall × All IsNumber users
HasLineRanges (lines.Forge phase wall branch author seq epoch view body) =
    IsNumber wall × IsNumber author × IsWithin 0 1024 (length body)
HasLineRanges (lines.Replay phase wall branch of position) = IsNumber wall
HasLineRanges (lines.Twin phase wall branch position) = IsNumber wall

pub record AreLines (tamper : List TamperLine) : Type 0 where
  pub few : length tamper ≤ 32
  pub all : All HasLineRanges tamper

-- ---- listed numbers

abbrev pub IsListedUser : Script → ℕ → Type 0
IsListedUser s n = has_user s.users n ≡ true

abbrev pub IsListedWall : Script → ℕ → Type 0
IsListedWall s n = has_wall s.walls n ≡ true

abbrev pub IsListed : Script → Command → Type 0
IsListed s (commands.Post wall text) = IsListedWall s wall
IsListed s (commands.Read wall) = IsListedWall s wall
IsListed s (commands.ReadAll wall) = IsListedWall s wall
IsListed s (commands.Admit wall user role) = IsListedWall s wall × IsListedUser s user
IsListed s (commands.Remove wall user) = IsListedWall s wall × IsListedUser s user

pub record IsListedSession (s : Script) (session : ScriptSession) : Type 0 where
  pub user : IsListedUser s session.user
  pub commands : All (IsListed s) session.commands

abbrev pub IsListedLine : Script → TamperLine → Type 0
IsListedLine s (lines.Flip phase session command byte mask) = ⊤
IsListedLine s (lines.Cut phase session command keep) = ⊤
IsListedLine s (lines.Add phase session command bytes) = ⊤
IsListedLine s (lines.From phase session command from) = ⊤
IsListedLine s (lines.Branch phase wall name of size) = IsListedWall s wall
IsListedLine s (lines.Serve phase wall branch users) = IsListedWall s wall × All (IsListedUser s) users
IsListedLine s (lines.Forge phase wall branch author seq epoch view body) =
    IsListedWall s wall × IsListedUser s author
IsListedLine s (lines.Replay phase wall branch of position) = IsListedWall s wall
IsListedLine s (lines.Twin phase wall branch position) = IsListedWall s wall

-- ---- the script

pub record IsScript (s : Script) : Type 0 where
  pub users : AreUsers s.users
  pub walls : AreWalls s.walls
  pub phases : ArePhases s.phases
  pub tamper : AreLines s.tamper
  pub owners : All (λ w. IsListedUser s w.owner) s.walls
  pub sessions : All (All (IsListedSession s)) s.phases
  pub lines : All (IsListedLine s) s.tamper
  -- no user writes more than its key signs
  pub signed : All (λ u. writes s u.user ≤ signatures u.lms) s.users
