-- What a request asks, and what its answer does to what its user knows.
use Rattle.std.proofs.Common.{◌≡◌, ◌∙◌, inl, inr, ℕ, List, refl, sym, ap, subst}
use Rattle.std.specs.List.{Contains}
use Rattle.std.proofs.lemmas.Bool.{cases_eq}
use Rattle.fr_bytes.specs.Bytes.{Text}
use Rattle.fr_bytes.proofs.HistoryLaws.{begins_itself}
use Rattle.fr_digest.specs.Digest.{Digest}
use Rattle.msg_form.specs.declared.causes.TheConstants.{WRONG_WALL, BAD_REQUEST}
use Rattle.msg_form.specs.declared.message.Request.{Request}
use Rattle.msg_form.specs.declared.message.Request.TheVariants.{Look, Append, Keys}
use Rattle.msg_form.specs.Messages.{SpellsRequest}
use Rattle.msg_form.proofs.Spellings.{request-one}
use Rattle.op_types.proofs.Ops.{op_text-one}
use Rattle.hall_core.specs.declared.ask.Answer.{Answer}
use Rattle.hall_core.specs.declared.ask.Ask.{Ask}
use Rattle.hall_core.specs.declared.ask.Ask.TheVariants as asks
use Rattle.hall_core.specs.declared.snapshot.Snapshot.{Snapshot}
use Rattle.hall_core.specs.Honest.{IsHonest}
use Rattle.hall_core.specs.PlainWall.{IsAsk}
use Rattle.hall_core.specs.Snapshots.{Stands}
use Rattle.hall_server.specs.Answers.{Answers, AnswersRequest, AnswersTurn, Halfway, HalfwayAt, HalfwayIn, HasGrown, HaveGrown, MakesTurn, Sights, StaysElsewhere, Turned, Unchanged}
use Rattle.hall_server.specs.HonestReplies.{IsAskOf, Refuses, Replies, wall_in}
use Rattle.hall_server.specs.Seating.{IsFirst}
use Rattle.hall_server.proofs.Playing.{played_honest}

-- ---- asks

pub asks_spelled : (request : Request) (ask : Ask) → IsAskOf request ask → IsAsk ask
asks_spelled (Look wall have whole) ask is = subst IsAsk (sym is) tt
asks_spelled (Append wall have op) ask is = subst IsAsk (sym is.2) is.1.is_op
asks_spelled (Keys wall size) ask is = subst IsAsk (sym is) tt

pub listed_first : (walls : List ℕ) (wall k : ℕ) → IsFirst walls wall k → Contains walls wall
listed_first walls wall k first = (k, first.within, first.here wall)

-- ---- growth

module _ (before now : Sights) where
  pub grown_unchanged : Unchanged before now → HaveGrown before now
  grown_unchanged same wall = subst (HasGrown (before wall)) (sym (same wall)) (record {
    same = refl;
    begins = begins_itself (before wall).front;
  })

  module _ (d : Digest) (user wall : ℕ) (ask : Ask) where
    grown_turn : (turn : _) → MakesTurn d user (before wall) (now wall) ask turn → StaysElsewhere wall before now
        → HaveGrown before now
    grown_turn turn made stays other = elim (cases_eq other wall) [
      | inl here ↦ subst (λ w. HasGrown (before w) (now w)) (sym here)
          (record { same = made.same; begins = made.grows.begins })
      | inr apart ↦ subst (HasGrown (before other)) (sym (stays other apart))
          (record { same = refl; begins = begins_itself (before other).front })
    ]

    pub grown_turned : (answer : Answer) → Turned d user before now wall ask answer → HaveGrown before now
    grown_turned answer it = grown_turn it.turn it.made it.elsewhere

    pub grown_halfway : HalfwayAt d user before now wall ask → HaveGrown before now
    grown_halfway half = elim half [
      | inl same ↦ grown_unchanged same
      | inr it ↦ grown_turn it.turn it.made it.elsewhere
    ]

    -- a turn whose reply wanted memory
    pub half_turned : (answer : Answer) → Turned d user before now wall ask answer
        → HalfwayAt d user before now wall ask
    half_turned answer it = inr (record {
      turn = it.turn;
      made = it.made;
      shown = inl it.shown;
      elsewhere = it.elsewhere;
    })

-- ---- replies

module _ (d : Digest) (user : ℕ) (before now : Sights) (request : Request) (ask : Ask) (answer : Answer)
    (it : Turned d user before now (wall_in request) ask answer) where
  -- the list that the turn left is an honest wall's
  pub left_honest : IsHonest d (before (wall_in request)).facts it.turn.left
  left_honest = subst (IsHonest d (before (wall_in request)).facts) (sym it.made.grows.left)
      (played_honest d (before (wall_in request)).facts (now (wall_in request)).front it.made.grows.played)

  pub left_shown : {D : Type 0} (snapshot : Snapshot D)
      → Stands d (now (wall_in request)).facts (now (wall_in request)).leaves snapshot
      → Stands d (before (wall_in request)).facts it.turn.left snapshot
  left_shown snapshot stands = subst (λ facts. Stands d facts it.turn.left snapshot) it.made.same
      (subst (λ leaves. Stands d (now (wall_in request)).facts leaves snapshot) it.shown stands)

  pub answers_turn : (reply : Text) → Replies d (before (wall_in request)).facts request it.turn.left answer reply
      → AnswersTurn d user before now request ask reply
  answers_turn reply replies = record {
    turn = it.turn;
    made = it.made;
    replies = subst (λ a. Replies d (before (wall_in request)).facts request it.turn.left a reply) (sym it.answered)
        replies;
    shown = it.shown;
    elsewhere = it.elsewhere;
  }

-- ---- requests

one_ask : (request : Request) (a b : Ask) → IsAskOf request a → IsAskOf request b → a ≡ b
one_ask (Look wall have whole) a b is is' = is ∙ sym is'
one_ask (Append wall have op) a b is is' =
    is.2 ∙ ap asks.Append (op_text-one is.0 is'.0 op is.1 is'.1) ∙ sym is'.2
one_ask (Keys wall size) a b is is' = is ∙ sym is'

module _ (d : Digest) (user : ℕ) (walls : List ℕ) (before now : Sights) (request : Request) (reply : Text) where
  pub answered_turn : (place : ℕ) (ask : Ask) → IsFirst walls (wall_in request) place → IsAskOf request ask
      → AnswersTurn d user before now request ask reply → AnswersRequest d user walls before now request reply
  answered_turn place ask first asked it = record {
    elsewhere = λ none. absurd (none (listed_first walls (wall_in request) place first));
    unread = λ listed none. absurd (none ask asked);
    turned = λ listed other asked'.
        subst (λ a. AnswersTurn d user before now request a reply) (one_ask request ask other asked asked') it;
  }

  pub answered_elsewhere : (Contains walls (wall_in request) → ⊥) → Unchanged before now
      → Refuses (wall_in request) WRONG_WALL 0 reply → AnswersRequest d user walls before now request reply
  answered_elsewhere none same refuses = record {
    elsewhere = λ _. (same, refuses);
    unread = λ listed. absurd (none listed);
    turned = λ listed. absurd (none listed);
  }

  pub answered_unread : (place : ℕ) → IsFirst walls (wall_in request) place
      → ((ask : Ask) → IsAskOf request ask → ⊥) → Unchanged before now
      → Refuses (wall_in request) BAD_REQUEST 0 reply → AnswersRequest d user walls before now request reply
  answered_unread place first none same refuses = record {
    elsewhere = λ away. absurd (away (listed_first walls (wall_in request) place first));
    unread = λ listed asks. (same, refuses);
    turned = λ listed ask asked. absurd (none ask asked);
  }

  -- ---- bytes

  pub answers_read : (bytes : Text) → SpellsRequest request bytes → AnswersRequest d user walls before now request reply
      → Answers d user walls before now bytes reply
  answers_read bytes spells it = record {
    unread = λ none. absurd (none request spells);
    read = λ other spells'. subst (λ r. AnswersRequest d user walls before now r reply)
        (request-one request other bytes spells spells') it;
  }

pub answers_unread : (d : Digest) (user : ℕ) (walls : List ℕ) (before now : Sights) (bytes reply : Text)
    → ((request : Request) → SpellsRequest request bytes → ⊥) → Unchanged before now → Refuses 0 BAD_REQUEST 0 reply
    → Answers d user walls before now bytes reply
answers_unread d user walls before now bytes reply none same refuses = record {
  unread = λ _. (same, refuses);
  read = λ request spells. absurd (none request spells);
}

module _ (d : Digest) (user : ℕ) (before now : Sights) (request : Request) where
  pub half_asked : (ask : Ask) → IsAskOf request ask → HalfwayAt d user before now (wall_in request) ask
      → HalfwayIn d user before now request
  half_asked ask asked half = elim half [
    | inl same ↦ inl same
    | inr it ↦ inr (ask, asked, it)
  ]

  pub half_read : (bytes : Text) → SpellsRequest request bytes → HalfwayIn d user before now request
      → Halfway d user before now bytes
  half_read bytes spells half = elim half [
    | inl same ↦ inl same
    | inr it ↦ inr (request, spells, it)
  ]
