-- The parts of a command: what is sent, what is carried, and what is learnt. d is the digest of strings.
use Rattle.std.specs.Prelude.{◌≡◌, ℕ, ◌≤◌, true, false, List, [], ◌∷◌, Option, Some, None, Ok, IfSome}
use Rattle.fr_bytes.specs.Bytes.{IsBytes, Text}
use Rattle.fr_bytes.specs.History.{Begins}
use Rattle.fr_digest.specs.Digest.{Digest}
use Rattle.fr_edges.specs.declared.wire.Carried.{Carried}
use Rattle.fr_edges.specs.Faults.{Rose}
use Rattle.fr_edges.specs.Sink.{with_more}
use Rattle.fr_edges.specs.Wire.{WireView}
use Rattle.msg_form.specs.declared.message.Request.TheVariants as requests
use Rattle.msg_form.specs.Messages.{SpellsRequest}
use Rattle.hall_core.specs.declared.ask.Ask.TheVariants as asks
use Rattle.hall_server.specs.Answers.{Sights}
use Rattle.hall_server.specs.HonestReplies.{IsAskOf}
use Rattle.script_form.specs.declared.outcome.KeysEnd.{KeysEnd}
use Rattle.script_form.specs.declared.outcome.KeysEnd.TheVariants as keys_ends
use Rattle.script_form.specs.declared.outcome.Outcome.{Outcome}
use Rattle.script_read.specs.declared.script.Command.{Command}
use Rattle.client_core.specs.declared.sent.Sent.{Sent}
use Rattle.client_core.specs.declared.news.News.{News}
use Rattle.client_core.specs.Asking.{ask}
use Rattle.client_core.specs.Sides.{SideView, side_of, with_side}
use Rattle.session_laws.specs.declared.place.Place.{Place}
use Rattle.session_laws.specs.Doing.{PlainClient, Task, ask_of, asked_by, keys_end, learning, outcome_at, request_of, sent_from, side_learnt, wall_of}
use Rattle.session_laws.specs.Lanes.{Passed}
use Rattle.session_run.specs.News.{news_end, news_keys, news_shown}

-- ---- wires

-- a wire carried a request and its reply, and delivered this
pub record CarriesIt (before now : WireView) (request reply : Text) (delivered : Option Text) : Type 0 where
  pub bytes : IfSome delivered IsBytes
  pub straight : now.straight ≡ before.straight
  pub carried : now.carried ≡ with_more before.carried
      (record { request = request; reply = reply; delivered = delivered } ∷ [])
  pub through : before.straight ≡ true → delivered ≡ Some reply
  pub never_falls : before.faults ≤ now.faults
  pub lost : delivered ≡ None → Rose before.faults now.faults

-- What a wire carried stays, and its count of faults doesn't fall.
pub record WireGrows (before now : WireView) : Type 0 where
  pub straight : now.straight ≡ before.straight
  pub carried : (more : List Carried) × (now.carried ≡ with_more before.carried more)
  pub faults : before.faults ≤ now.faults

-- ---- clients

-- A client's records and signed operations stay.
pub record BookGrows (before now : PlainClient) : Type 0 where
  pub took : Begins before.took now.took
  pub signed : Begins before.signed now.signed

-- The request that was sent for a command has a spelling, and so has the operation in it.
pub record Sends (s : SideView) (command : Command) (sent : Sent) : Type 0 where
  pub spells : SpellsRequest (request_of s command sent.signed) sent.request
  pub asks : IsAskOf (request_of s command sent.signed) (ask_of sent.signed)
  pub wall : sent.wall ≡ s.known.wall

-- ---- keys

-- The changes of a wall were asked for, and the client, whose side was this one, learnt what was delivered, or not.
pub record Learnt (d : Digest) (user : ℕ) (c c' : PlainClient) (before now : Sights) (wire wire' : WireView)
    (s : SideView) (end : KeysEnd) : Type 0 where
  pub delivered : Option Text
  pub passed : Passed d user before now wire wire' (requests.Keys s.known.wall s.known.size) asks.Look delivered
  pub client : c' ≡ record c { sides = with_side s.known.wall (side_learnt s (learning d s.known delivered)) c.sides }
  pub end_is : end ≡ keys_end (learning d s.known delivered)

-- ---- sending

-- For a task the client, whose side was this one, has sent this.
pub record HasSent (c c' : PlainClient) (s : SideView) (task : Task) (sent : Sent) : Type 0 where
  pub found : side_of (wall_of task.command) c.sides ≡ Some s
  pub asked : ask c.signer c.user s (asked_by task.command) ≡ Ok sent
  pub sends : Sends s task.command sent
  pub after : c' ≡ sent_from c s sent.signed

-- ---- telling

-- Keys were asked for behind news where the side that has heard them needs them, and this came of it.
pub record KeysBehind (d : Digest) (user : ℕ) (c c' : PlainClient) (before now : Sights) (wire wire' : WireView)
    (t : SideView) (news : News) (end : KeysEnd) : Type 0 where
  pub alone : news_keys t news ≡ false → (c' ≡ c) × (now ≡ before) × (wire' ≡ wire) × (end ≡ keys_ends.Fine)
  pub keyed : news_keys t news ≡ true → Learnt d user c c' before now wire wire' t end

-- What came of news: the keys behind them, and the outcome that is told then.
pub record Told (d : Digest) (user : ℕ) (place : Place) (c c' : PlainClient) (before now : Sights) (wire wire' : WireView)
    (t : SideView) (news : News) (o : Outcome) : Type 0 where
  pub alone : news_keys t news ≡ false → (c' ≡ c) × (now ≡ before) × (wire' ≡ wire)
      × (o ≡ outcome_at place (news_end news) (news_shown t news) keys_ends.Fine)
  pub keyed : news_keys t news ≡ true → (end : KeysEnd) × (learnt : Learnt d user c c' before now wire wire' t end)
      × (o ≡ outcome_at place (news_end news)
      (news_shown (side_learnt t (learning d t.known learnt.delivered)) news) end)
