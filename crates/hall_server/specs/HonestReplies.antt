-- The bytes that an honest server replies with to a request: a relation between them, the request, the list after the
-- turn that it made, and the answer of that turn. d is the digest of strings.
use Rattle.std.specs.Prelude.{◌≡◌, ◌⊎◌, ℕ, ◌<◌, ◌≤◌, false, List, length}
use Rattle.fr_bytes.specs.Bytes.{Text}
use Rattle.fr_digest.specs.Digest.{Digest}
use Rattle.op_types.specs.declared.op.Leaf.{Leaf}
use Rattle.op_types.specs.declared.op.Op.{Op}
use Rattle.op_types.specs.Spelling.{SpellsOp}
use Rattle.msg_form.specs.declared.causes.TheConstants.{WRONG_WALL, NOT_ALLOWED, STALE_EPOCH, REPLAYED, BAD_CHANGE, LATE_VIEW, BAD_SIGNATURE, BAD_VIEW, FULL, BAD_REQUEST}
use Rattle.msg_form.specs.declared.message.Reply.TheVariants as replies
use Rattle.msg_form.specs.declared.message.Request.{Request}
use Rattle.msg_form.specs.declared.message.Request.TheVariants.{Look, Append, Keys}
use Rattle.msg_form.specs.Messages.{SpellsReply}
use Rattle.honest_replies.specs.HonestReply.{KeysReply, ShowReply}
use Rattle.hall_core.specs.declared.ask.Answer.{Answer}
use Rattle.hall_core.specs.declared.ask.Answer.TheVariants.{Looked, Placed, Refused}
use Rattle.hall_core.specs.declared.ask.Ask.{Ask}
use Rattle.hall_core.specs.declared.ask.Ask.TheVariants as asks
use Rattle.hall_core.specs.declared.ask.Cause.{Cause}
use Rattle.hall_core.specs.declared.ask.Cause.TheVariants as causes
use Rattle.hall_core.specs.declared.facts.WallFacts.{WallFacts}

-- ---- requests

-- the wall that is asked for
abbrev pub wall_in : Request → ℕ
wall_in (Look wall have whole) = wall
wall_in (Append wall have op) = wall
wall_in (Keys wall size) = wall

-- What a request asks of its wall: an operation that its bytes spell, or to look. Bytes that spell no operation ask
-- nothing.
abbrev pub IsAskOf : Request → Ask → Type 0
IsAskOf (Look wall have whole) ask = ask ≡ asks.Look
IsAskOf (Append wall have op) ask = (o : Op) × SpellsOp o op × (ask ≡ asks.Append o)
IsAskOf (Keys wall size) ask = ask ≡ asks.Look

-- ---- refusals

-- the bytes tell that nothing was done, and why
abbrev pub Refuses : ℕ → ℕ → ℕ → Text → Type 0
Refuses wall cause number bytes = SpellsReply (replies.Refused wall cause number) bytes

-- The bytes tell the cause for which a wall takes no operation, with its detail. Want of memory is told by no bytes.
abbrev pub TellsCause : ℕ → Cause → Text → Type 0
TellsCause wall causes.Full bytes = Refuses wall FULL 0 bytes
TellsCause wall causes.BadSignature bytes = Refuses wall BAD_SIGNATURE 0 bytes
TellsCause wall causes.WrongWall bytes = Refuses wall WRONG_WALL 0 bytes
TellsCause wall causes.NotAllowed bytes = Refuses wall NOT_ALLOWED 0 bytes
TellsCause wall (causes.StaleEpoch now) bytes = Refuses wall STALE_EPOCH now bytes
TellsCause wall (causes.Replayed next) bytes = Refuses wall REPLAYED next bytes
TellsCause wall causes.BadChange bytes = Refuses wall BAD_CHANGE 0 bytes
TellsCause wall causes.LateView bytes = Refuses wall LATE_VIEW 0 bytes
TellsCause wall causes.BadView bytes = Refuses wall BAD_VIEW 0 bytes
TellsCause wall causes.NoMemory bytes = ⊥

-- ---- what is shown

-- The changes of the access list among the first `size` leaves, where there are as many leaves and `size` isn't 0.
pub record ShowsKeys (d : Digest) (wall : ℕ) (L : List Leaf) (size : ℕ) (bytes : Text) : Type 0 where
  pub shown : 0 < size → size ≤ length L → KeysReply d wall L size bytes
  pub refused : (size ≡ 0) ⊎ (length L < size) → Refuses wall BAD_REQUEST 0 bytes

-- The wall is shown as the request asks: all that follows what the client has accepted where it asks for all, and else
-- what follows the vouch point; after an operation as after a look that doesn't ask for all.
abbrev pub Shows : Digest → WallFacts → Request → List Leaf → Text → Type 0
Shows d facts (Look wall have whole) L bytes =
    ShowReply d facts.wall facts.owner facts.server have facts.f L whole bytes
Shows d facts (Append wall have op) L bytes =
    ShowReply d facts.wall facts.owner facts.server have facts.f L false bytes
Shows d facts (Keys wall size) L bytes = ShowsKeys d facts.wall L size bytes

-- The reply to a request, by the list L after its turn and by the turn's answer.
abbrev pub Replies : Digest → WallFacts → Request → List Leaf → Answer → Text → Type 0
Replies d facts request L (Refused cause) bytes = TellsCause facts.wall cause bytes
Replies d facts request L (Looked size) bytes = Shows d facts request L bytes
Replies d facts request L (Placed position) bytes = Shows d facts request L bytes
