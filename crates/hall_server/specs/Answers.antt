-- What a server does with the bytes of a request. d is the digest of strings.
use Rattle.std.specs.Prelude.{◌≡◌, ◌≢◌, ◌⊎◌, ℕ, List, [], ◌∷◌, ◌++◌}
use Rattle.std.specs.List.{Contains}
use Rattle.fr_bytes.specs.Bytes.{Text}
use Rattle.fr_bytes.specs.History.{Begins}
use Rattle.fr_digest.specs.Digest.{Digest}
use Rattle.msg_form.specs.declared.causes.TheConstants.{WRONG_WALL, BAD_REQUEST}
use Rattle.msg_form.specs.declared.message.Request.{Request}
use Rattle.msg_form.specs.Messages.{SpellsRequest}
use Rattle.hall_core.specs.declared.ask.Answer.{Answer}
use Rattle.hall_core.specs.declared.ask.Ask.{Ask}
use Rattle.hall_core.specs.declared.ask.Called.{Called}
use Rattle.hall_core.specs.declared.facts.WallFacts.{WallFacts}
use Rattle.hall_core.specs.Calls.{Turn, play, turns}
use Rattle.hall_server.specs.HonestReplies.{IsAskOf, Refuses, Replies, wall_in}
use Rattle.hall_server.specs.Seating.{IsPlayed}
use Rattle.hall_server.specs.Sights.{Sight}

-- what a user knows of each wall, by the wall's number
abbrev pub Sights : Type 0
Sights = ℕ → Sight

-- ---- one turn

-- A caller makes one turn: what it has seen grows by others' entries and then by the entry of this turn, which has what
-- was asked. The entries are the plain wall's, and the turn's list is the one that they leave.
pub record GrowsBy (d : Digest) (facts : WallFacts) (user : ℕ) (before now : List Called) (ask : Ask) (turn : Turn)
    : Type 0 where
  pub begins : Begins before now
  pub turned : turns d facts user now ≡ turns d facts user before ++ turn ∷ []
  pub by : turn.call.caller ≡ user
  pub asked : turn.call.ask ≡ ask
  pub left : turn.left ≡ play d facts now
  pub played : IsPlayed d facts now

-- a turn with this answer
pub record TurnsAt (d : Digest) (facts : WallFacts) (user : ℕ) (before now : List Called) (ask : Ask) (answer : Answer)
    : Type 0 where
  pub turn : Turn
  pub grows : GrowsBy d facts user before now ask turn
  pub answered : turn.call.answer ≡ answer

-- the same at a wall
pub record MakesTurn (d : Digest) (user : ℕ) (before now : Sight) (ask : Ask) (turn : Turn) : Type 0 where
  pub same : now.facts ≡ before.facts
  pub grows : GrowsBy d before.facts user before.front now.front ask turn

-- The other walls are known as before.
abbrev pub StaysElsewhere : ℕ → Sights → Sights → Type 0
StaysElsewhere wall before now = (other : ℕ) → other ≢ wall → now other ≡ before other

-- A turn was made that gave this answer, and the user's snapshot shows the list that it left.
pub record Turned (d : Digest) (user : ℕ) (before now : Sights) (wall : ℕ) (ask : Ask) (answer : Answer) : Type 0 where
  pub turn : Turn
  pub made : MakesTurn d user (before wall) (now wall) ask turn
  pub answered : turn.call.answer ≡ answer
  pub shown : (now wall).leaves ≡ turn.left
  pub elsewhere : StaysElsewhere wall before now

-- A request is answered by one turn: the reply is the one to its answer and to the list that it left, which the user's
-- snapshot shows now.
pub record AnswersTurn (d : Digest) (user : ℕ) (before now : Sights) (request : Request) (ask : Ask) (reply : Text)
    : Type 0 where
  pub turn : Turn
  pub made : MakesTurn d user (before (wall_in request)) (now (wall_in request)) ask turn
  pub replies : Replies d (before (wall_in request)).facts request turn.left turn.call.answer reply
  pub shown : (now (wall_in request)).leaves ≡ turn.left
  pub elsewhere : StaysElsewhere (wall_in request) before now

-- ---- any bytes

-- no turn was made
abbrev pub Unchanged : Sights → Sights → Type 0
Unchanged before now = (wall : ℕ) → now wall ≡ before wall

-- A request is refused where the wall is none of the server's or where its bytes spell no operation, in this order. Else
-- it is answered by one turn.
pub record AnswersRequest (d : Digest) (user : ℕ) (walls : List ℕ) (before now : Sights) (request : Request) (reply : Text)
    : Type 0 where
  pub elsewhere : (Contains walls (wall_in request) → ⊥)
      → Unchanged before now × Refuses (wall_in request) WRONG_WALL 0 reply
  pub unread : Contains walls (wall_in request) → ((ask : Ask) → IsAskOf request ask → ⊥)
      → Unchanged before now × Refuses (wall_in request) BAD_REQUEST 0 reply
  pub turned : Contains walls (wall_in request) → (ask : Ask) → IsAskOf request ask
      → AnswersTurn d user before now request ask reply

-- The reply to any bytes: those that spell no request are refused.
pub record Answers (d : Digest) (user : ℕ) (walls : List ℕ) (before now : Sights) (bytes reply : Text) : Type 0 where
  pub unread : ((request : Request) → SpellsRequest request bytes → ⊥)
      → Unchanged before now × Refuses 0 BAD_REQUEST 0 reply
  pub read : (request : Request) → SpellsRequest request bytes
      → AnswersRequest d user walls before now request reply

-- ---- want of memory

-- What a request that wanted memory leaves: all is as before, or its turn was made, and the snapshot is that of this turn
-- or the one before.
pub record TurnsOnly (d : Digest) (user : ℕ) (before now : Sights) (wall : ℕ) (ask : Ask) : Type 0 where
  pub turn : Turn
  pub made : MakesTurn d user (before wall) (now wall) ask turn
  pub shown : ((now wall).leaves ≡ turn.left) ⊎ ((now wall).leaves ≡ (before wall).leaves)
  pub elsewhere : StaysElsewhere wall before now

abbrev pub HalfwayAt : Digest → ℕ → Sights → Sights → ℕ → Ask → Type 0
HalfwayAt d user before now wall ask = Unchanged before now ⊎ TurnsOnly d user before now wall ask

abbrev pub HalfwayIn : Digest → ℕ → Sights → Sights → Request → Type 0
HalfwayIn d user before now request = Unchanged before now
    ⊎ ((ask : Ask) × IsAskOf request ask × TurnsOnly d user before now (wall_in request) ask)

-- the same of bytes
abbrev pub Halfway : Digest → ℕ → Sights → Sights → Text → Type 0
Halfway d user before now bytes = Unchanged before now
    ⊎ ((request : Request) × SpellsRequest request bytes
    × ((ask : Ask) × IsAskOf request ask × TurnsOnly d user before now (wall_in request) ask))

-- ---- any answer

-- what a user has seen of a wall only grows
pub record HasGrown (before now : Sight) : Type 0 where
  pub same : now.facts ≡ before.facts
  pub begins : Begins before.front now.front

abbrev pub HaveGrown : Sights → Sights → Type 0
HaveGrown before now = (wall : ℕ) → HasGrown (before wall) (now wall)
