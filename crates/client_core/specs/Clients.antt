-- A client, and what its calls make of it.
use Rattle.std.specs.Prelude.{◌≡◌, ℕ, ◌+◌, ◌<◌, ◌≤◌, ◌^◌, List, [], ◌∷◌, ◌++◌, map, Option, Some, None, Ok, Err, is_some, nat_eq, option_and_then, if◌then◌else◌, IfSome}
use Rattle.std.specs.List.{AllByRecursion, IsDistinct}
use Rattle.fr_bytes.specs.Bytes.{Text}
use Rattle.fr_digest.specs.Digest.{Digest}
use Rattle.op_types.specs.declared.kind.Kind.{Kind}
use Rattle.op_types.specs.declared.op.Leaf.{Leaf}
use Rattle.op_types.specs.declared.op.Op.{Op}
use Rattle.op_types.specs.declared.view.View.{View}
use Rattle.op_types.specs.Spelling.{IsOp, op_text}
use Rattle.op_types.specs.declared.limits.TheConstants.{SEQ_MAX}
use Rattle.lms_tree.specs.Signer.{Signing}
use Rattle.lms_tree.specs.Valid.{Key}
use Rattle.key_graph.specs.KeyBook.{new_book}
use Rattle.key_graph.specs.KeyTree.{leaf_text}
use Rattle.signed_ops.specs.Signed.{IsAuthorSigned, key_of, once_more, signed_by}
use Rattle.hist_proof.specs.declared.pruned.Pruned.{Pruned}
use Rattle.dict_proof.specs.declared.pruned_dict.PrunedDict.{PrunedDict}
use Rattle.check_rules.specs.Verdict.{judged, keys_judged}
use Rattle.check_core.specs.declared.checked.Checked.{Checked}
use Rattle.check_core.specs.declared.checked.Checked.TheVariants.{Same, Taken, Refused}
use Rattle.check_core.specs.View.{checked_view}
use Rattle.msg_form.specs.declared.decline.Decline.{Decline}
use Rattle.msg_form.specs.declared.message.Request.TheVariants as requests
use Rattle.msg_form.specs.declared.verdict.Verdict.{Verdict}
use Rattle.msg_form.specs.Messages.{IsRequest}
use Rattle.world_book.specs.declared.book.UserBook.{UserBook}
use Rattle.world_book.specs.declared.took.Took.{Took}
use Rattle.client_core.specs.declared.news.News.{News}
use Rattle.client_core.specs.declared.sent.Sent.{Sent}
use Rattle.client_core.specs.declared.side.Side.{Side}
use Rattle.client_core.specs.declared.start.Owned.{Owned}
use Rattle.client_core.specs.declared.start.SideStart.{SideStart}
use Rattle.client_core.specs.Keys.{KeysView, member, owner}
use Rattle.client_core.specs.Asking.{Command, ask, read_by, sent_of, unsigned}
use Rattle.client_core.specs.Sides.{SideView, no_view, side_of, sides_view, with_side}
use Rattle.client_core.specs.Taking.{news_of, relearnt, side_after}

-- what signs its operations, a side for each wall, and the user's book
pub record ClientView : Type 0 where
  pub signer : Signing
  pub sides : List SideView
  pub book : UserBook

-- a client with what it holds of each wall as the program keeps it
pub record Standing : Type 0 where
  pub signer : Signing
  pub sides : List Side
  pub book : UserBook

abbrev pub client_view : Standing → ClientView
client_view c = record { signer = c.signer; sides = sides_view c.sides; book = c.book }

-- ---- books

-- an honest user's book has the operation behind the others, a rogue's stays empty
abbrev pub with_signed : UserBook → Op → UserBook
with_signed book op =
    if book.rogue then book else record book { signed = book.signed ++ (record { user = book.user; op = op }) ∷ [] }

abbrev pub with_took : UserBook → Took → UserBook
with_took book t = if book.rogue then book else record book { took = book.took ++ t ∷ [] }

-- the record of a reply, with what the side had accepted before
abbrev pub took_of : ℕ → SideView → View → ℕ → Pruned → List Leaf → List PrunedDict → Took
took_of user s view from proof leaves dicts = record {
  user = user;
  wall = s.known.wall;
  have = s.known.size;
  from = from;
  leaves = leaves;
  size = view.size;
  root = view.root;
  proof = proof;
  dicts = dicts;
}

-- the book after a reply that was checked so
abbrev pub book_after : UserBook → SideView → Checked → UserBook
book_after book s (Same size) = book
book_after book s (Refused cause number) = book
book_after book s (Taken view from proof leaves dicts) = with_took book
    (took_of book.user s view from proof leaves dicts)

-- ---- asking

-- the side that has sent this
abbrev pub side_sent : SideView → Option Op → SideView
side_sent s None = s
side_sent s (Some op) = record s { next = s.next + 1 }

-- the client that has sent this to the wall of a side
abbrev pub having_sent : ClientView → SideView → Option Op → ClientView
having_sent c s None = c
having_sent c s (Some op) = record {
  signer = once_more c.signer;
  sides = with_side s.known.wall (record s { next = s.next + 1 }) c.sides;
  book = with_signed c.book op;
}

-- Room for one more operation on a wall: a number for it, and a leaf to sign it with.
pub record IsReady (c : ClientView) (wall : ℕ) : Type 0 where
  pub side : SideView
  pub found : side_of wall c.sides ≡ Some side
  pub number : side.next ≤ SEQ_MAX
  pub leaf : c.signer.used < 2 ^ c.signer.pair.lms.h

-- A client asks by the plain client's rule, and is then as that client is. What it signed for it is signed under its key.
pub record Asks (before : ClientView) (wall : ℕ) (command : Command) (sent : Sent) (after : ClientView) : Type 0 where
  pub side : SideView
  pub found : side_of wall before.sides ≡ Some side
  pub asked : ask before.signer before.book.user side command ≡ Ok sent
  pub signed : IfSome sent.signed (IsAuthorSigned side.known.users)
  pub after_is : after ≡ having_sent before side sent.signed

-- A client has signed an operation of this kind for the wall, and sends it.
pub record Appends (before : ClientView) (wall : ℕ) (kind : Kind) (sent : Sent) (after : ClientView) : Type 0 where
  pub side : SideView
  pub found : side_of wall before.sides ≡ Some side
  pub sent_is : sent ≡ sent_of side.known.size (signed_by before.signer (unsigned before.book.user side kind))
  pub signed : IfSome sent.signed (IsAuthorSigned side.known.users)
  pub after_is : after ≡ having_sent before side sent.signed

-- The operation that is sent to a wall of which so many positions are accepted has a spelling, and so has the request
-- with it.
abbrev pub IsSendable : ℕ → Option Op → Type 0
IsSendable have None = Unit {0}
IsSendable have (Some op) = IsOp op × IsRequest (requests.Append op.wall have (op_text op))

-- A client declines by the plain client's rule.
pub record Declines (c : ClientView) (wall : ℕ) (command : Command) (decline : Decline) : Type 0 where
  pub side : SideView
  pub found : side_of wall c.sides ≡ Some side
  pub declined : ask c.signer c.book.user side command ≡ Err decline

-- ---- beginning

abbrev pub opening_keys : ℕ → ℕ → ℕ → Text → Option Owned → KeysView
opening_keys user wall depth secret None = member (new_book wall depth user (leaf_text secret wall))
opening_keys user wall depth secret (Some owned) = owner (record {
  setting = record { wall = wall; depth = depth; master = owned.master };
  followed = [];
  epochs = [];
}) owned.secrets

-- a side of which nothing has been accepted
abbrev pub opening_side : ℕ → SideStart → SideView
opening_side user start = record {
  known = start.known;
  view = no_view start.known.wall;
  keys = opening_keys user start.known.wall start.depth start.secret start.owned;
  next = 0;
}

-- what a side may begin with
pub record IsStart (user : ℕ) (start : SideStart) : Type 0 where
  pub size : start.known.size ≡ 0
  pub epoch : start.known.epoch ≡ 0
  pub few : start.known.f ≤ 31
  pub depth : (1 ≤ start.depth) × (start.depth ≤ 6)
  pub owned : is_some start.owned ≡ nat_eq user start.known.owner

-- What the sides of a user may begin with. No two are of one wall, and all have the same keys, the user's own included.
pub record AreStarts (user : ℕ) (key : Key) (starts : List SideStart) : Type 0 where
  pub each : AllByRecursion (IsStart user) starts
  pub walls : IsDistinct nat_eq (map (λ (s : SideStart). s.known.wall) starts)
  pub keys : List (ℕ × Key)
  pub same : AllByRecursion (λ (s : SideStart). s.known.users ≡ keys) starts
  pub own : key_of keys user ≡ Some key

-- ---- taking

abbrev pub having_taken : ClientView → SideView → Checked → ClientView
having_taken c s checked = record c {
  sides = with_side s.known.wall (side_after s (checked_view checked)) c.sides;
  book = book_after c.book s checked;
}

-- A client has made this of a reply to what it sent to the wall.
pub record Makes (before : ClientView) (wall : ℕ) (checked : Checked) (news : News) (after : ClientView) : Type 0 where
  pub side : SideView
  pub found : side_of wall before.sides ≡ Some side
  pub news_is : news ≡ news_of (checked_view checked)
  pub after_is : after ≡ having_taken before side checked

-- A client makes of a reply what the rows say of it, and is then as the plain client is; what it adds to the book is
-- that reply's.
pub record Hears (d : Digest) (before : ClientView) (sent : Sent) (bytes : Text) (news : News)
    (after : ClientView) : Type 0 where
  pub side : SideView
  pub found : side_of sent.wall before.sides ≡ Some side
  pub checked : Checked
  pub judged_so : judged d side.known sent.asked bytes ≡ Ok (checked_view checked)
  pub news_is : news ≡ news_of (checked_view checked)
  pub after_is : after ≡ having_taken before side checked

-- A client rejects a reply by the first row that applies.
pub record Rejects (d : Digest) (c : ClientView) (sent : Sent) (bytes : Text) (verdict : Verdict) : Type 0 where
  pub side : SideView
  pub found : side_of sent.wall c.sides ≡ Some side
  pub judged_so : judged d side.known sent.asked bytes ≡ Err verdict

-- what an operation posts, as far as the client can read it
abbrev pub read_of : ClientView → Op → Option Text
read_of c op = option_and_then (λ (s : SideView). read_by s op) (side_of op.wall c.sides)

-- ---- keys

-- A client has learnt these changes of the wall, in the place of all that it held.
pub record Learns (before : ClientView) (wall : ℕ) (changes : List Op) (after : ClientView) : Type 0 where
  pub side : SideView
  pub found : side_of wall before.sides ≡ Some side
  pub after_is : after ≡ record before { sides = with_side side.known.wall (relearnt side changes) before.sides }

-- A client learns the changes that a reply shows, in the place of all that it held.
pub record Relearns (d : Digest) (before : ClientView) (wall : ℕ) (bytes : Text) (after : ClientView) : Type 0 where
  pub side : SideView
  pub found : side_of wall before.sides ≡ Some side
  pub changes : List Op
  pub judged_so : keys_judged d side.known bytes ≡ Ok changes
  pub after_is : after ≡ record before { sides = with_side side.known.wall (relearnt side changes) before.sides }

pub record RejectsKeys (d : Digest) (c : ClientView) (wall : ℕ) (bytes : Text) (verdict : Verdict) : Type 0 where
  pub side : SideView
  pub found : side_of wall c.sides ≡ Some side
  pub judged_so : keys_judged d side.known bytes ≡ Err verdict
