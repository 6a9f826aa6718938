-- What a client does for the commands of a run, by what was delivered to it. d is the digest of strings.
use Rattle.std.specs.Prelude.{ℕ, ◌+◌, Bool, true, false, List, [], ◌∷◌, ◌++◌, map, fold, filter, Option, Some, None, Result, Ok, Err, nat_eq, nat_lt, if◌then◌else◌}
use Rattle.std.specs.List.{flat_map, scan}
use Rattle.std.specs.Option.{option_map}
use Rattle.fr_bytes.specs.Bytes.{Text}
use Rattle.fr_digest.specs.Digest.{Digest}
use Rattle.fr_edges.specs.declared.wire.Carried.{Carried}
use Rattle.hist_proof.specs.Pruned.{Tree}
use Rattle.hist_proof.specs.View.{tree_view}
use Rattle.pruned_list.specs.PrunedList.{PrunedList}
use Rattle.op_types.specs.declared.kind.Kind.{Kind}
use Rattle.op_types.specs.declared.kind.Kind.TheVariants as kinds
use Rattle.op_types.specs.declared.op.Leaf.{Leaf}
use Rattle.op_types.specs.declared.op.Op.{Op}
use Rattle.op_types.specs.declared.view.View.{View}
use Rattle.op_types.specs.Spelling.{op_text}
use Rattle.lms_tree.specs.Signer.{Signing}
use Rattle.signed_ops.specs.Signed.{once_more}
use Rattle.msg_form.specs.declared.decline.Decline.{Decline}
use Rattle.msg_form.specs.declared.message.Request.{Request}
use Rattle.msg_form.specs.declared.message.Request.TheVariants as requests
use Rattle.msg_form.specs.declared.verdict.Verdict.{Verdict}
use Rattle.msg_form.specs.Messages.{request_text}
use Rattle.check_rules.specs.declared.asked.Asked.{Asked}
use Rattle.check_rules.specs.declared.known.Known.{Known}
use Rattle.check_rules.specs.Verdict.{Judged, Judgement, same, taken, refusal, judged, keys_judged}
use Rattle.world_book.specs.declared.took.Signed.{Signed}
use Rattle.world_book.specs.declared.took.Took.{Took}
use Rattle.world_book.specs.Kept.{lists_of}
use Rattle.hall_core.specs.declared.ask.Ask.{Ask}
use Rattle.hall_core.specs.declared.ask.Ask.TheVariants as asks
use Rattle.hall_server.specs.HonestReplies.{wall_in}
use Rattle.script_read.specs.declared.script.Command.{Command}
use Rattle.script_read.specs.declared.script.Command.TheVariants as commands
use Rattle.script_form.specs.declared.outcome.CommandEnd.{CommandEnd}
use Rattle.script_form.specs.declared.outcome.CommandEnd.TheVariants as ends
use Rattle.script_form.specs.declared.outcome.KeysEnd.{KeysEnd}
use Rattle.script_form.specs.declared.outcome.KeysEnd.TheVariants as keys_ends
use Rattle.script_form.specs.declared.outcome.Outcome.{Outcome}
use Rattle.script_form.specs.declared.outcome.Shown.{Shown}
use Rattle.script_form.specs.declared.outcome.ShownKind.{ShownKind}
use Rattle.script_form.specs.declared.outcome.ShownKind.TheVariants as shows
use Rattle.client_core.specs.declared.sent.Sent.{Sent}
use Rattle.client_core.specs.Asking as asking
use Rattle.client_core.specs.Asking.{ask, read_by}
use Rattle.client_core.specs.Clients.{ClientView}
use Rattle.client_core.specs.Keys.{held}
use Rattle.client_core.specs.Sides.{SideView, side_of, with_side}
use Rattle.client_core.specs.Taking.{side_after, relearnt}
use Rattle.session_laws.specs.declared.place.Place.{Place}

-- ---- commands

-- a command with its place and its user
pub record Task : Type 0 where
  pub place : Place
  pub user : ℕ
  pub command : Command

abbrev pub wall_of : Command → ℕ
wall_of (commands.Post wall text) = wall
wall_of (commands.Read wall) = wall
wall_of (commands.ReadAll wall) = wall
wall_of (commands.Admit wall user role) = wall
wall_of (commands.Remove wall user) = wall

-- what it would have a client ask of the wall
abbrev pub asked_by : Command → asking.Command
asked_by (commands.Post wall text) = asking.post text
asked_by (commands.Read wall) = asking.look false
asked_by (commands.ReadAll wall) = asking.look true
asked_by (commands.Admit wall user role) = asking.admit user role
asked_by (commands.Remove wall user) = asking.remove user

-- whether all that follows is to be shown
abbrev pub is_whole : Command → Bool
is_whole (commands.Post wall text) = false
is_whole (commands.Read wall) = false
is_whole (commands.ReadAll wall) = true
is_whole (commands.Admit wall user role) = false
is_whole (commands.Remove wall user) = false

-- ---- clients

-- a taken reply, with what it showed as trees and lists
pub record TookView : Type 0 where
  pub user : ℕ
  pub wall : ℕ
  pub have : ℕ
  pub from : ℕ
  pub leaves : List Leaf
  pub size : ℕ
  pub root : Text
  pub proof : Tree
  pub lists : List PrunedList

abbrev pub took_view : Took → TookView
took_view t = record {
  user = t.user;
  wall = t.wall;
  have = t.have;
  from = t.from;
  leaves = t.leaves;
  size = t.size;
  root = t.root;
  proof = tree_view t.proof;
  lists = lists_of t;
}

-- a client: its user, whether that is a rogue, the signer, a side for each wall, and the taken replies and the signed
-- operations, of which a rogue's are none
pub record PlainClient : Type 0 where
  pub user : ℕ
  pub rogue : Bool
  pub signer : Signing
  pub sides : List SideView
  pub took : List TookView
  pub signed : List Signed

abbrev pub plain : ClientView → PlainClient
plain c = record {
  user = c.book.user;
  rogue = c.book.rogue;
  signer = c.signer;
  sides = c.sides;
  took = map took_view c.book.took;
  signed = c.book.signed;
}

-- ---- sending

-- the side that has sent this
abbrev pub sent_side : SideView → Option Op → SideView
sent_side s None = s
sent_side s (Some op) = record s { next = s.next + 1 }

-- and its client
abbrev pub sent_from : PlainClient → SideView → Option Op → PlainClient
sent_from c s None = c
sent_from c s (Some op) = record c {
  signer = once_more c.signer;
  sides = with_side s.known.wall (sent_side s (Some op)) c.sides;
  signed = if c.rogue then c.signed else c.signed ++ (record { user = c.user; op = op }) ∷ [];
}

abbrev pub request_of : SideView → Command → Option Op → Request
request_of s command None = requests.Look s.known.wall s.known.size (is_whole command)
request_of s command (Some op) = requests.Append s.known.wall s.known.size (op_text op)

-- what is asked of the wall
abbrev pub ask_of : Option Op → Ask
ask_of None = asks.Look
ask_of (Some op) = asks.Append op

-- ---- hearing

-- what a client makes of what was delivered to it: nothing, where that was nothing
abbrev pub Hearing : Type 0
Hearing = Option Judgement

abbrev pub hearing : Digest → Known → Asked → Option Text → Hearing
hearing d known asked delivered = option_map (judged d known asked) delivered

abbrev pub side_heard : SideView → Hearing → SideView
side_heard s None = s
side_heard s (Some (Err verdict)) = s
side_heard s (Some (Ok j)) = side_after s j

-- the record of a reply, with what the side had accepted before
abbrev pub took_of : ℕ → SideView → View → ℕ → Tree → List Leaf → List PrunedList → TookView
took_of user s view from tree leaves lists = record {
  user = user;
  wall = s.known.wall;
  have = s.known.size;
  from = from;
  leaves = leaves;
  size = view.size;
  root = view.root;
  proof = tree;
  lists = lists;
}

-- the records after a reply that wasn't rejected
abbrev pub took_after : PlainClient → SideView → Judged → List TookView
took_after c s (same size) = c.took
took_after c s (taken view from tree leaves lists) =
    if c.rogue then c.took else c.took ++ took_of c.user s view from tree leaves lists ∷ []
took_after c s (refusal cause number) = c.took

abbrev pub heard_by : PlainClient → SideView → Hearing → PlainClient
heard_by c s None = c
heard_by c s (Some (Err verdict)) = c
heard_by c s (Some (Ok j)) = record c {
  sides = with_side s.known.wall (side_after s j) c.sides;
  took = took_after c s j;
}

abbrev pub end_of : Hearing → CommandEnd
end_of None = ends.Lost
end_of (Some (Err verdict)) = ends.Rejected verdict
end_of (Some (Ok (same size))) = ends.Same size
end_of (Some (Ok (taken view from tree leaves lists))) = ends.Accepted view.size from
end_of (Some (Ok (refusal cause number))) = ends.Refused cause number

-- ---- what is shown

abbrev pub post_or : Option Text → ShownKind
post_or None = shows.Unreadable
post_or (Some text) = shows.Post text

abbrev pub what_of : SideView → Op → Kind → ShownKind
what_of s op (kinds.Post body) = post_or (read_by s op)
what_of s op (kinds.Admit user role slot wraps) = shows.Admit user role
what_of s op (kinds.Remove user slot wraps) = shows.Remove user

abbrev pub shown_at : SideView → ℕ → Leaf → Shown
shown_at s k leaf = record { position = k; author = leaf.op.author; what = what_of s leaf.op leaf.op.kind }

-- the leaves at the positions from k on, by the keys that a side holds
abbrev pub shown_from : SideView → ℕ → List Leaf → List Shown
shown_from s k [] = []
shown_from s k (leaf ∷ leaves) = shown_at s k leaf ∷ shown_from s (k + 1) leaves

abbrev pub shown_of : SideView → Hearing → List Shown
shown_of s None = []
shown_of s (Some (Err verdict)) = []
shown_of s (Some (Ok (same size))) = []
shown_of s (Some (Ok (taken view from tree leaves lists))) = shown_from s from leaves
shown_of s (Some (Ok (refusal cause number))) = []

-- ---- keys

-- fewer changes are held than there are
abbrev pub needs_keys : SideView → Bool
needs_keys s = nat_lt (held s.keys) s.known.epoch

-- a reply that is the same or taken asks for keys, where they are needed then
abbrev pub asks_keys : Hearing → SideView → Bool
asks_keys None s = false
asks_keys (Some (Err verdict)) s = false
asks_keys (Some (Ok (same size))) s = needs_keys s
asks_keys (Some (Ok (taken view from tree leaves lists))) s = needs_keys s
asks_keys (Some (Ok (refusal cause number))) s = false

abbrev pub Learning : Type 0
Learning = Option (Result (List Op) Verdict)

abbrev pub learning : Digest → Known → Option Text → Learning
learning d known delivered = option_map (keys_judged d known) delivered

abbrev pub side_learnt : SideView → Learning → SideView
side_learnt s None = s
side_learnt s (Some (Err verdict)) = s
side_learnt s (Some (Ok changes)) = relearnt s changes

abbrev pub keys_end : Learning → KeysEnd
keys_end None = keys_ends.Lost
keys_end (Some (Err verdict)) = keys_ends.Rejected verdict
keys_end (Some (Ok changes)) = keys_ends.Fine

-- ---- one command

-- A carry over a wire: the reply that was handed to it, what it delivered, and its count of faults afterwards.
pub record Carry : Type 0 where
  pub reply : Text
  pub delivered : Option Text
  pub faults : ℕ

-- A command with its carry, and that of the keys behind it. Nothing reads a carry that wasn't made.
pub record Heard : Type 0 where
  pub task : Task
  pub first : Carry
  pub keys : Carry

-- One carry of a command: what is asked of the wall, by which request, what was carried, and the count afterwards.
pub record Exchange : Type 0 where
  pub task : Task
  pub request : Request
  pub ask : Ask
  pub carried : Carried
  pub faults : ℕ

abbrev pub exchange : Task → Request → Ask → Carry → Exchange
exchange task request ask c = record {
  task = task;
  request = request;
  ask = ask;
  carried = record { request = request_text request; reply = c.reply; delivered = c.delivered };
  faults = c.faults;
}

abbrev pub keys_exchange : Task → SideView → Carry → Exchange
keys_exchange task s c = exchange task (requests.Keys s.known.wall s.known.size) asks.Look c

abbrev pub outcome_at : Place → CommandEnd → List Shown → KeysEnd → Outcome
outcome_at place end shown keys = record {
  phase = place.phase;
  session = place.session;
  command = place.command;
  end = end;
  shown = shown;
  keys = keys;
}

abbrev pub outcome_of : Task → CommandEnd → List Shown → KeysEnd → Outcome
outcome_of task end shown keys = outcome_at task.place end shown keys

-- what came of a command, and the client afterwards
pub record Done : Type 0 where
  pub exchanges : List Exchange
  pub outcome : Outcome
  pub client : PlainClient

abbrev pub done_declined : PlainClient → Task → Decline → Done
done_declined c task decline = record {
  exchanges = [];
  outcome = outcome_of task (ends.Declined decline) [] keys_ends.Fine;
  client = c;
}

-- after the first carry, which nothing follows
abbrev pub done_alone : PlainClient → Task → Exchange → SideView → Hearing → Done
done_alone c task x s j = record {
  exchanges = x ∷ [];
  outcome = outcome_of task (end_of j) (shown_of s j) keys_ends.Fine;
  client = c;
}

-- after both carries
abbrev pub done_keyed : PlainClient → Task → Exchange → Exchange → SideView → Hearing → Learning → Done
done_keyed c task x y s j learnt = record {
  exchanges = x ∷ y ∷ [];
  outcome = outcome_of task (end_of j) (shown_of (side_learnt s learnt) j) (keys_end learnt);
  client = record c { sides = with_side s.known.wall (side_learnt s learnt) c.sides };
}

-- c and s are the client and the side that have heard.
abbrev pub done_heard : Digest → PlainClient → Heard → Exchange → SideView → Hearing → Done
done_heard d c h x s j =
    if asks_keys j s
    then done_keyed c h.task x (keys_exchange h.task s h.keys) s j (learning d s.known h.keys.delivered)
    else done_alone c h.task x s j

-- c and s are the client and the side that have sent.
abbrev pub done_sent : Digest → PlainClient → Heard → Exchange → SideView → Hearing → Done
done_sent d c h x s j = done_heard d (heard_by c s j) h x (side_heard s j) j

abbrev pub done_asked : Digest → PlainClient → Heard → SideView → Result Sent Decline → Done
done_asked d c h s (Err decline) = done_declined c h.task decline
done_asked d c h s (Ok sent) = done_sent d (sent_from c s sent.signed) h
    (exchange h.task (request_of s h.task.command sent.signed) (ask_of sent.signed) h.first)
    (sent_side s sent.signed) (hearing d s.known sent.asked h.first.delivered)

-- A client without a side for the wall does nothing; no run has one.
abbrev pub done_on : Digest → PlainClient → Heard → Option SideView → Done
done_on d c h None = record { exchanges = []; outcome = outcome_of h.task ends.Lost [] keys_ends.Fine; client = c }
done_on d c h (Some s) = done_asked d c h s (ask c.signer c.user s (asked_by h.task.command))

unfoldable pub done : Digest → PlainClient → Heard → Done
done d c h = done_on d c h (side_of (wall_of h.task.command) c.sides)

-- ---- several commands

-- what a client did for a command
pub record Did : Type 0 where
  pub task : Task
  pub exchanges : List Exchange
  pub outcome : Outcome

abbrev pub did : Digest → PlainClient → Heard → Did
did d c h = record { task = h.task; exchanges = (done d c h).exchanges; outcome = (done d c h).outcome }

-- and the client afterwards
abbrev pub after : Digest → PlainClient → Heard → PlainClient
after d c h = (done d c h).client

-- what the commands of one client did, in order, and the client at the end
abbrev pub dids : Digest → PlainClient → List Heard → List Did
dids d c heards = scan (after d) (did d) c heards

abbrev pub last : Digest → PlainClient → List Heard → PlainClient
last d c heards = fold (after d) c heards

-- what was heard for a user's commands
abbrev pub stream : ℕ → List Heard → List Heard
stream user heards = filter (λ (h : Heard). nat_eq h.task.user user) heards

-- a user's client, after what was heard
abbrev pub client_of : Digest → (ℕ → PlainClient) → ℕ → List Heard → PlainClient
client_of d start user heards = last d (start user) (stream user heards)

-- what a command did, after what was heard before it
abbrev pub did_behind : Digest → (ℕ → PlainClient) → List Heard → Heard → Did
did_behind d start earlier h = did d (client_of d start h.task.user earlier) h

-- what all of the commands did, in order
abbrev pub all_dids : Digest → (ℕ → PlainClient) → List Heard → List Did
all_dids d start heards = scan (λ (hs : List Heard) (h : Heard). hs ++ h ∷ []) (did_behind d start) [] heards

abbrev pub exchanges_of : List Did → List Exchange
exchanges_of ds = flat_map (λ (x : Did). x.exchanges) ds

abbrev pub outcomes_of : List Did → List Outcome
outcomes_of ds = map (λ (x : Did). x.outcome) ds

-- what a session's commands did, and a phase's
abbrev pub over : ℕ → List Did → List Did
over session ds = filter (λ (x : Did). nat_eq x.task.place.session session) ds

abbrev pub in_phase : ℕ → List Did → List Did
in_phase phase ds = filter (λ (x : Did). nat_eq x.task.place.phase phase) ds

-- the exchanges with a wall
abbrev pub on : ℕ → List Exchange → List Exchange
on wall xs = filter (λ (x : Exchange). nat_eq (wall_in x.request) wall) xs

-- ---- a session's commands

-- the tasks of a user's session in a phase, of which the first command has this number
abbrev pub tasks_from : ℕ → ℕ → ℕ → ℕ → List Command → List Task
tasks_from phase session user n [] = []
tasks_from phase session user n (command ∷ commands) = record {
  place = record { phase = phase; session = session; command = n };
  user = user;
  command = command;
} ∷ tasks_from phase session user (n + 1) commands

abbrev pub tasks_of : ℕ → ℕ → ℕ → List Command → List Task
tasks_of phase session user commands = tasks_from phase session user 1 commands
