-- What a client on an honest wall declines, and which posts it reads: by the wall's access list. d is the digest of
-- strings, and L are the wall's leaves.
use Rattle.std.specs.Prelude.{◌≡◌, ℕ, ◌+◌, ◌^◌, ◌<◌, Bool, List, [], ◌∷◌, length, take, Option, Some, None, is_some, nat_eq, if◌then◌else◌, slice_get}
use Rattle.fr_bytes.specs.Bytes.{Text}
use Rattle.fr_digest.specs.Digest.{Digest}
use Rattle.op_types.specs.declared.op.Leaf.{Leaf}
use Rattle.op_types.specs.declared.op.Op.{Op}
use Rattle.tree_model.specs.declared.entry.Entry.{Entry}
use Rattle.tree_model.specs.AccessList.{entry_of}
use Rattle.wall_law.specs.State.{state_of}
use Rattle.msg_form.specs.declared.decline.Decline.{Decline}
use Rattle.msg_form.specs.declared.decline.Decline.TheVariants as declines
use Rattle.hall_core.specs.declared.ask.Ask.TheVariants as asks
use Rattle.script_read.specs.declared.script.Command.{Command}
use Rattle.script_read.specs.declared.script.Command.TheVariants as commands
use Rattle.script_form.specs.declared.outcome.CommandEnd.TheVariants as ends
use Rattle.script_form.specs.declared.outcome.Outcome.{Outcome}
use Rattle.world_book.specs.Records.{IsIn}
use Rattle.client_core.specs.Asking.{read_by}
use Rattle.client_core.specs.Sides.{SideView, side_of}
use Rattle.session_laws.specs.Doing.{Did, Done, Exchange, Heard, PlainClient, Task, after, dids, done, stream, wall_of}

-- ---- declines

-- the access list names the user
abbrev pub is_named : List Entry → ℕ → Bool
is_named es user = is_some (entry_of es user)

-- Why the owner asks for no such admission: the user is in the list, or no slot of a key tree of this depth is free,
-- which are 2 to the depth for the users other than the owner.
abbrev pub no_admission : ℕ → List Entry → ℕ → Option Decline
no_admission depth es other =
    if is_named es other then Some declines.AlreadyIn
    else if nat_eq (length es) (2 ^ depth + 1) then Some declines.NoSlot
    else None

-- and for no such removal: the user isn't in the list, or is the owner
abbrev pub no_removal : ℕ → List Entry → ℕ → Option Decline
no_removal owner es other =
    if nat_eq other owner then Some declines.NotIn
    else if is_named es other then None
    else Some declines.NotIn

-- Why a user's client declines a command where this is the access list: a read never is; a post is where the list
-- doesn't name the user; a change is where the user isn't the owner, or for the reasons above.
abbrev pub declined_by : ℕ → ℕ → ℕ → List Entry → Command → Option Decline
declined_by depth owner user es (commands.Read wall) = None
declined_by depth owner user es (commands.ReadAll wall) = None
declined_by depth owner user es (commands.Post wall text) = if is_named es user then None else Some declines.NotMember
declined_by depth owner user es (commands.Admit wall other role) =
    if nat_eq user owner then no_admission depth es other else Some declines.NotOwner
declined_by depth owner user es (commands.Remove wall other) =
    if nat_eq user owner then no_removal owner es other else Some declines.NotOwner

-- it ends so exactly where there is such a reason, and then for that reason
abbrev pub DeclinesAs : Option Decline → Outcome → Type 0
DeclinesAs (Some decline) o = o.end ≡ ends.Declined decline
DeclinesAs None o = (decline : Decline) → o.end ≡ ends.Declined decline → ⊥

-- ---- posts

-- The operation is that of a post of this text: its author's client sent it for the command to post the text.
pub record IsPosted (d : Digest) (start : ℕ → PlainClient) (heards : List Heard) (op : Op) (text : Text) : Type 0 where
  pub did : Did
  pub there : IsIn (dids d (start op.author) (stream op.author heards)) did
  pub command : did.task.command ≡ commands.Post op.wall text
  pub exchange : Exchange
  pub sent : IsIn did.exchanges exchange
  pub asks : exchange.ask ≡ asks.Append op

-- Each post that a side has accepted is read as it was posted by a user whom the access list names at its position, and
-- by nobody else.
abbrev pub ReadsPosts : ℕ → ℕ → (Op → Text → Type 0) → List Leaf → SideView → Type 0
ReadsPosts owner reader Posted L t = (k : ℕ) (leaf : Leaf) (text : Text) → slice_get L k ≡ Some leaf → k < t.known.size
    → Posted leaf.op text
    → read_by t leaf.op ≡ (if is_named (state_of owner (take k L)).entries reader then Some text else None)

-- ---- commands

-- What was done for a command on the wall: the client declined it by the access list that it had accepted, and then
-- reads the posts by it.
pub record IsByList (depth owner wall : ℕ) (Posted : Op → Text → Type 0) (L : List Leaf) (c : PlainClient) (task : Task)
    (x : Done) : Type 0 where
  pub declines : wall_of task.command ≡ wall → (s : SideView) → side_of wall c.sides ≡ Some s
      → DeclinesAs (declined_by depth owner c.user (state_of owner (take s.known.size L)).entries task.command) x.outcome
  pub reads : (t : SideView) → side_of wall x.client.sides ≡ Some t → ReadsPosts owner c.user Posted L t

-- the same of each of a user's commands
abbrev pub AreByList : Digest → ℕ → ℕ → ℕ → (Op → Text → Type 0) → List Leaf → PlainClient → List Heard → Type 0
AreByList d depth owner wall Posted L c [] = Unit {0}
AreByList d depth owner wall Posted L c (h ∷ hs) = IsByList depth owner wall Posted L c h.task (done d c h)
    × AreByList d depth owner wall Posted L (after d c h) hs
