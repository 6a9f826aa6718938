-- What a command on an honest wall comes to, by the turns that it made. d is the digest of strings.
use Rattle.std.specs.Prelude.{◌≡◌, ◌⊎◌, ℕ, ◌+◌, ◌<◌, Bool, false, List, [], ◌∷◌, ◌++◌, length, drop, Some}
use Rattle.std.specs.List.{AllZip}
use Rattle.fr_digest.specs.Digest.{Digest}
use Rattle.op_types.specs.declared.op.Leaf.{Leaf}
use Rattle.msg_form.specs.declared.causes.TheConstants.{WRONG_WALL, NOT_ALLOWED, STALE_EPOCH, REPLAYED, BAD_CHANGE, LATE_VIEW, BAD_SIGNATURE, BAD_VIEW, FULL}
use Rattle.msg_form.specs.declared.decline.Decline.{Decline}
use Rattle.honest_replies.specs.HonestNews.{Begins}
use Rattle.hall_core.specs.declared.ask.Answer.{Answer}
use Rattle.hall_core.specs.declared.ask.Answer.TheVariants.{Looked, Placed, Refused}
use Rattle.hall_core.specs.declared.ask.Cause.{Cause}
use Rattle.hall_core.specs.declared.ask.Cause.TheVariants as causes
use Rattle.hall_core.specs.declared.facts.WallFacts.{WallFacts}
use Rattle.hall_core.specs.Calls.{Turn}
use Rattle.script_form.specs.declared.outcome.CommandEnd.TheVariants as ends
use Rattle.script_form.specs.declared.outcome.KeysEnd.TheVariants as keys_ends
use Rattle.script_form.specs.declared.outcome.Outcome.{Outcome}
use Rattle.script_form.specs.Status.{fails}
use Rattle.client_core.specs.Sides.{SideView, side_of}
use Rattle.session_laws.specs.Doing.{Done, Heard, PlainClient, Task, after, done, is_whole, on, shown_from, wall_of}
use Rattle.session_laws.specs.Halves.{Serves}

-- ---- refusals

-- the number of a cause, and what is told beside it; want of memory has none
abbrev pub code_of : Cause → ℕ
code_of causes.Full = FULL
code_of causes.BadSignature = BAD_SIGNATURE
code_of causes.WrongWall = WRONG_WALL
code_of causes.NotAllowed = NOT_ALLOWED
code_of (causes.StaleEpoch now) = STALE_EPOCH
code_of (causes.Replayed next) = REPLAYED
code_of causes.BadChange = BAD_CHANGE
code_of causes.LateView = LATE_VIEW
code_of causes.BadView = BAD_VIEW
code_of causes.NoMemory = 0

abbrev pub detail_of : Cause → ℕ
detail_of causes.Full = 0
detail_of causes.BadSignature = 0
detail_of causes.WrongWall = 0
detail_of causes.NotAllowed = 0
detail_of (causes.StaleEpoch now) = now
detail_of (causes.Replayed next) = next
detail_of causes.BadChange = 0
detail_of causes.LateView = 0
detail_of causes.BadView = 0
detail_of causes.NoMemory = 0

-- ---- one command

-- It is accepted up to the end of the list, and shows it from the vouch point on, or from what was accepted before
-- where all is asked for. `s` is the side before, and `t` the one afterwards.
pub record ShowsAll (facts : WallFacts) (whole : Bool) (s t : SideView) (L : List Leaf) (o : Outcome) : Type 0 where
  pub later : s.known.size < length L
  pub from : ℕ
  pub begins : Begins s.known.size facts.f L whole from
  pub end : o.end ≡ ends.Accepted (length L) from
  pub shown : o.shown ≡ shown_from t from (drop from L)

-- There is nothing new to it.
pub record ShowsNothing (s : SideView) (L : List Leaf) (o : Outcome) : Type 0 where
  pub level : s.known.size ≡ length L
  pub end : o.end ≡ ends.Same (length L)
  pub shown : o.shown ≡ []

-- It is refused for this cause.
pub record IsRefused (cause : Cause) (o : Outcome) : Type 0 where
  pub end : o.end ≡ ends.Refused (code_of cause) (detail_of cause)
  pub shown : o.shown ≡ []

-- By the answer and the list of its turn: a look ends with all, or with nothing new where nothing is; an operation that
-- was placed ends with all up to it; and a refused one ends so.
abbrev pub EndsBy : WallFacts → Bool → SideView → SideView → List Leaf → Answer → Outcome → Type 0
EndsBy facts whole s t L (Looked size) o = (size ≡ length L) × (ShowsNothing s L o ⊎ ShowsAll facts whole s t L o)
EndsBy facts whole s t L (Placed position) o = (position + 1 ≡ length L) × ShowsAll facts whole s t L o
EndsBy facts whole s t L (Refused cause) o = IsRefused cause o

-- A declined command made no turn; each other one ends by its first turn. A second one was for keys.
abbrev pub TellsBy : WallFacts → Bool → SideView → SideView → Outcome → List Turn → Type 0
TellsBy facts whole s t o [] = (decline : Decline) × (o.end ≡ ends.Declined decline) × (o.shown ≡ [])
TellsBy facts whole s t o (turn ∷ more) = EndsBy facts whole s t turn.left turn.call.answer o

-- What was done for a command: its exchanges with the wall are these turns; and if it was on the wall, it ends by them,
-- and neither it nor what it asked for keys is rejected or lost.
pub record Tells (d : Digest) (facts : WallFacts) (c : PlainClient) (task : Task) (x : Done) (turns : List Turn)
    : Type 0 where
  pub served : AllZip (Serves d facts) (on facts.wall x.exchanges) turns
  pub ends : wall_of task.command ≡ facts.wall → (s t : SideView) → side_of facts.wall c.sides ≡ Some s
      → side_of facts.wall x.client.sides ≡ Some t → TellsBy facts (is_whole task.command) s t x.outcome turns
  pub fine : wall_of task.command ≡ facts.wall → x.outcome.keys ≡ keys_ends.Fine
  pub calm : wall_of task.command ≡ facts.wall → fails x.outcome ≡ false

-- ---- all commands of a user

-- Each command's turns are the next of these, and it ends by them.
abbrev pub TellsAll : Digest → WallFacts → PlainClient → List Heard → List Turn → Type 0
TellsAll d facts c [] turns = turns ≡ []
TellsAll d facts c (h ∷ hs) turns = (now : List Turn) × (later : List Turn) × (turns ≡ now ++ later)
    × Tells d facts c h.task (done d c h) now × TellsAll d facts (after d c h) hs later
