-- What a client needs to do commands.
use Rattle.std.specs.Prelude.{◌≡◌, ℕ, ◌+◌, ◌≤◌, ◌^◌, true, List, [], ◌∷◌, length, Some, if◌then◌else◌}
use Rattle.std.specs.List.{AllByRecursion}
use Rattle.op_types.specs.declared.limits.TheConstants.{BODY_BYTES_MAX, SEQ_MAX}
use Rattle.op_types.specs.Roles.{may_be_given}
use Rattle.script_read.specs.declared.script.Command.{Command}
use Rattle.script_read.specs.declared.script.Command.TheVariants as commands
use Rattle.script_read.specs.Writes.{is_write}
use Rattle.client_core.specs.Sides.{SideView, side_of}
use Rattle.session_laws.specs.Doing.{PlainClient, wall_of}

-- how many of these commands sign an operation, and whether one does
abbrev pub write_of : Command → ℕ
write_of command = if is_write command then 1 else 0

abbrev pub writes : List Command → ℕ
writes [] = 0
writes (command ∷ more) = write_of command + writes more

-- a side for a wall
abbrev pub IsFound : ℕ → List SideView → Type 0
IsFound wall sides = (s : SideView) × (side_of wall sides ≡ Some s)

-- A client can do these commands: it has a side for each of their walls, and a leaf to sign with and a number on each
-- wall for each write.
pub record CanDo (c : PlainClient) (todo : List Command) : Type 0 where
  pub walls : AllByRecursion (λ (command : Command). IsFound (wall_of command) c.sides) todo
  pub leaves : c.signer.used + writes todo ≤ 2 ^ c.signer.pair.lms.h
  pub numbers : (wall : ℕ) (s : SideView) → side_of wall c.sides ≡ Some s → s.next + writes todo ≤ SEQ_MAX + 1

-- a command that a client may be asked for
abbrev pub IsAskable : Command → Type 0
IsAskable (commands.Post wall text) = length text ≤ BODY_BYTES_MAX
IsAskable (commands.Read wall) = Unit {0}
IsAskable (commands.ReadAll wall) = Unit {0}
IsAskable (commands.Admit wall user role) = may_be_given role ≡ true
IsAskable (commands.Remove wall user) = Unit {0}
