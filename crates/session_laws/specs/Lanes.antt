-- What a session does in a phase: its lane. d is the digest of strings.
use Rattle.std.specs.Prelude.{◌≡◌, ℕ, ◌<◌, ◌≤◌, Bool, true, false, List, [], ◌∷◌, ◌++◌, length, map, take, Option, IfSome}
use Rattle.std.specs.List.{AllByRecursion}
use Rattle.fr_bytes.specs.Bytes.{IsBytes, Text}
use Rattle.fr_bytes.specs.History.{Begins}
use Rattle.fr_digest.specs.Digest.{Digest}
use Rattle.fr_edges.specs.declared.wire.Carried.{Carried}
use Rattle.fr_edges.specs.Sink.{with_more}
use Rattle.fr_edges.specs.Wire.{WireView}
use Rattle.msg_form.specs.declared.message.Request.{Request}
use Rattle.hall_core.specs.declared.ask.Ask.{Ask}
use Rattle.hall_server.specs.Answers.{AnswersTurn, Sights}
use Rattle.script_form.specs.declared.outcome.Outcome.{Outcome}
use Rattle.session_laws.specs.Doing.{Carry, Heard, PlainClient, Task, dids, done, exchange, exchanges_of, last, on, outcomes_of}
use Rattle.hall_server.specs.Sights.{Sight}
use Rattle.session_laws.specs.Halves.{SeatHalf, WireHalf}

-- a session's client, its outcomes, its user's seat at each wall, and its wire
pub record LaneView : Type 0 where
  pub client : PlainClient
  pub outcomes : List Outcome
  pub seat : ℕ → Sight
  pub wire : WireView

-- what was delivered is bytes
abbrev pub HeardBytes : Heard → Type 0
HeardBytes h = IfSome h.first.delivered IsBytes × IfSome h.keys.delivered IsBytes

-- The lane did these tasks: its client is the one that heard what was delivered, its outcomes are those, its user's
-- turns at each wall are those of its exchanges there, and its wire carried these exchanges and no others.
pub record LaneRun (d : Digest) (user : ℕ) (before now : LaneView) (tasks : List Task) : Type 0 where
  pub heards : List Heard
  pub asked : map (λ (h : Heard). h.task) heards ≡ tasks
  pub bytes : AllByRecursion HeardBytes heards
  pub told : now.outcomes ≡ before.outcomes ++ outcomes_of (dids d before.client heards)
  pub knows : now.client ≡ last d before.client heards
  pub seats : (wall : ℕ) → SeatHalf d user (before.seat wall) (now.seat wall)
      (on wall (exchanges_of (dids d before.client heards)))
  pub wire : WireHalf before.wire now.wire (exchanges_of (dids d before.client heards))

-- ---- one exchange

-- The server answered a request by a turn of the user's, and the wire carried the reply and delivered this.
pub record Passed (d : Digest) (user : ℕ) (before now : Sights) (wire wire' : WireView) (request : Request) (ask : Ask)
    (delivered : Option Text) : Type 0 where
  pub carry : Carry
  pub delivered_is : carry.delivered ≡ delivered
  pub bytes : IfSome delivered IsBytes
  pub answers : AnswersTurn d user before now request ask carry.reply
  pub wires : (task : Task) → WireHalf wire wire' (exchange task request ask carry ∷ [])

-- ---- one task

-- One task was done, by what was heard for it.
pub record TaskRun (d : Digest) (user : ℕ) (before now : LaneView) (task : Task) : Type 0 where
  pub heard : Heard
  pub asked : heard.task ≡ task
  pub bytes : HeardBytes heard
  pub told : now.outcomes ≡ before.outcomes ++ (done d before.client heard).outcome ∷ []
  pub knows : now.client ≡ (done d before.client heard).client
  pub seats : (wall : ℕ) → SeatHalf d user (before.seat wall) (now.seat wall)
      (on wall (done d before.client heard).exchanges)
  pub wire : WireHalf before.wire now.wire (done d before.client heard).exchanges

-- ---- want of memory

-- What a task leaves that wanted memory: no outcome; each front has only grown, the wire carried what it had carried and
-- maybe more, its count didn't fall, and the client's records and signed operations are those before and maybe more.
pub record Halfway (mid now : LaneView) : Type 0 where
  pub outcomes : now.outcomes ≡ mid.outcomes
  pub facts : (wall : ℕ) → (now.seat wall).facts ≡ (mid.seat wall).facts
  pub fronts : (wall : ℕ) → Begins (mid.seat wall).front (now.seat wall).front
  pub carried : (more : List Carried) × (now.wire.carried ≡ with_more mid.wire.carried more)
  pub straight : now.wire.straight ≡ mid.wire.straight
  pub faults : mid.wire.faults ≤ now.wire.faults
  pub took : Begins mid.client.took now.client.took
  pub signed : Begins mid.client.signed now.client.signed

-- A lane that is short did the tasks before one that wanted memory.
pub record ShortLane (d : Digest) (user : ℕ) (before now : LaneView) (tasks : List Task) : Type 0 where
  pub count : ℕ
  pub some : count < length tasks
  pub mid : LaneView
  pub ran : LaneRun d user before mid (take count tasks)
  pub left : Halfway mid now

-- A lane did its tasks, or is short.
pub record LaneDone (d : Digest) (user : ℕ) (short : Bool) (before now : LaneView) (tasks : List Task) : Type 0 where
  pub all : short ≡ false → LaneRun d user before now tasks
  pub some : short ≡ true → ShortLane d user before now tasks
