-- What sessions of tests do, and whose clients they have.
use Rattle.std.specs.Prelude.{◌≡◌, ℕ, ◌+◌, ◌≤◌, ◌^◌, List, length, Some}
use Rattle.std.specs.List.{AllByRecursion}
use Rattle.script_read.specs.declared.script.Command.{Command}
use Rattle.client_core.specs.Sides.{SideView, side_of}
use Rattle.session_laws.specs.Doing.{PlainClient, wall_of}
use Rattle.session_laws.specs.Readiness.{IsAskable, IsFound, writes}

-- a command of a wall that a client may be asked for
pub record IsOn (wall : ℕ) (command : Command) : Type 0 where
  pub askable : IsAskable command
  pub wall_is : wall_of command ≡ wall

-- Few commands of one wall, of which few sign an operation.
pub record AreFew (wall : ℕ) (todo : List Command) : Type 0 where
  pub few : length todo ≤ 64
  pub on : AllByRecursion (IsOn wall) todo
  pub posts : writes todo ≤ 8

-- So many commands of one wall, among which as many more may sign an operation.
pub record IsGoing (wall number left : ℕ) (todo : List Command) : Type 0 where
  pub many : length todo ≡ number
  pub on : AllByRecursion (IsOn wall) todo
  pub posts : writes todo + left ≤ 8

-- A user's client that has done nothing yet. It has a side for the wall.
pub record IsFresh (user wall : ℕ) (c : PlainClient) : Type 0 where
  pub user_is : c.user ≡ user
  pub found : IsFound wall c.sides
  pub leaves : c.signer.used + 8 ≤ 2 ^ c.signer.pair.lms.h
  pub numbers : (w : ℕ) (s : SideView) → side_of w c.sides ≡ Some s → s.next ≡ 0
