-- What a client asks: nothing, with a reason, or a look, or an operation that it signs.
use Rattle.std.specs.Prelude.{ℕ, ◌+◌, ◌*◌, ◌^◌, Bool, List, [], Option, Some, None, Result, Ok, Err, nat_eq, nat_lt, if◌then◌else◌}
use Rattle.std.specs.Option.{option_map}
use Rattle.fr_bytes.specs.Bytes.{Text}
use Rattle.op_types.specs.declared.kind.Kind.{Kind}
use Rattle.op_types.specs.declared.kind.Kind.TheVariants as kinds
use Rattle.op_types.specs.declared.kind.Wrap.{Wrap}
use Rattle.op_types.specs.declared.op.Op.{Op}
use Rattle.op_types.specs.Spelling.{op_text}
use Rattle.pad_wrap.specs.Pad.{padded}
use Rattle.key_graph.specs.declared.change.KeyChange.{KeyChange}
use Rattle.key_graph.specs.declared.change.KeyChange.TheVariants as changes
use Rattle.key_graph.specs.declared.change.PlanRefusal.{PlanRefusal}
use Rattle.key_graph.specs.declared.change.PlanRefusal.TheVariants as plans
use Rattle.key_graph.specs.KeyTree.{Tree, planned}
use Rattle.lms_tree.specs.Signer.{Signing}
use Rattle.signed_ops.specs.Signed.{signed_by}
use Rattle.msg_form.specs.declared.decline.Decline.{Decline}
use Rattle.msg_form.specs.declared.decline.Decline.TheVariants as declines
use Rattle.msg_form.specs.declared.message.Request.TheVariants as requests
use Rattle.msg_form.specs.Messages.{request_text}
use Rattle.check_rules.specs.declared.asked.Asked.TheVariants as asks
use Rattle.client_core.specs.declared.sent.Sent.{Sent}
use Rattle.client_core.specs.Keys.{KeysView, owner, member, held, leaf_of, root_key}
use Rattle.client_core.specs.Sides.{SideView}

-- what a user would have a client ask of a wall
pub data Command : Type 0 where
  -- to see it, all that is new or the last of it
  look : Bool → Command
  -- to add a text
  post : Text → Command
  -- to add a user in a role to the access list
  admit : ℕ → ℕ → Command
  -- to take a user from it
  remove : ℕ → Command

-- ---- posts

-- the number of the key stream of a body
abbrev pub post_stream : ℕ → ℕ → ℕ
post_stream author seq = author * 2 ^ 32 + seq

abbrev pub padded_post : ℕ → ℕ → Text → Option Text → Result Kind Decline
padded_post author seq text None = Err declines.NotMember
padded_post author seq text (Some key) = Ok (kinds.Post (padded key (post_stream author seq) text))

-- the text under the root key of the accepted epoch
unfoldable pub posted : ℕ → SideView → Text → Result Kind Decline
posted user s text = padded_post user s.next text (root_key s.keys s.known.epoch)

-- the text that a post of this author and number has, by the root key of its epoch where that is held
abbrev pub posted_text : ℕ → ℕ → Option Text → Kind → Option Text
posted_text author seq key (kinds.Post body) = option_map (λ (k : Text). padded k (post_stream author seq) body) key
posted_text author seq key (kinds.Admit user role slot wraps) = None
posted_text author seq key (kinds.Remove user slot wraps) = None

unfoldable pub read_by : SideView → Op → Option Text
read_by s op = posted_text op.author op.seq (root_key s.keys op.epoch) op.kind

-- ---- changes of the access list

-- a user who is to be added in a role, or taken away
pub data Wish : Type 0 where
  adds : ℕ → ℕ → Wish
  drops : ℕ → Wish

abbrev pub whom : Wish → ℕ
whom (adds other role) = other
whom (drops other) = other

-- why the owner can't be whom it is about
abbrev pub owner_decline : Wish → Decline
owner_decline (adds other role) = declines.AlreadyIn
owner_decline (drops other) = declines.NotIn

abbrev pub key_change : Tree → List (ℕ × Text) → Wish → KeyChange
key_change tree secrets (adds other role) = changes.Admit other (leaf_of tree.setting.wall secrets other)
key_change tree secrets (drops other) = changes.Remove other

abbrev pub kind_with : Wish → ℕ → List Wrap → Kind
kind_with (adds other role) slot wraps = kinds.Admit other role slot wraps
kind_with (drops other) slot wraps = kinds.Remove other slot wraps

abbrev pub plan_decline : PlanRefusal → Decline
plan_decline plans.AlreadyIn = declines.AlreadyIn
plan_decline plans.NotIn = declines.NotIn
plan_decline plans.NoSlot = declines.NoSlot
plan_decline plans.NoMemory = declines.NoMemory

abbrev pub kind_planned : Wish → Result (ℕ × List Wrap) PlanRefusal → Result Kind Decline
kind_planned wish (Ok plan) = Ok (kind_with wish plan.0 plan.1)
kind_planned wish (Err refusal) = Err (plan_decline refusal)

abbrev pub changed_by : SideView → Wish → KeysView → Result Kind Decline
changed_by s wish (member book) = Err declines.NotOwner
changed_by s wish (owner tree secrets) =
    if nat_lt (held s.keys) s.known.epoch then Err declines.NotMember
    else if nat_eq (whom wish) s.known.owner then Err (owner_decline wish)
    else kind_planned wish (planned tree (s.next + 1) (key_change tree secrets wish))

-- The slot and the wraps are those that the owner's tree plans for the generation behind the operation's number.
unfoldable pub changed : SideView → Wish → Result Kind Decline
changed s wish = changed_by s wish s.keys

-- ---- operations

-- the operation before it is signed: the next number, and the accepted epoch and view
abbrev pub unsigned : ℕ → SideView → Kind → Op
unsigned user s kind = record {
  wall = s.known.wall;
  author = user;
  seq = s.next;
  epoch = s.known.epoch;
  view = s.view;
  kind = kind;
  sig = [];
}

-- what is sent with an operation
unfoldable pub sent_of : ℕ → Op → Sent
sent_of have op = record {
  request = request_text (requests.Append op.wall have (op_text op));
  wall = op.wall;
  asked = asks.Append (op_text op);
  signed = Some op;
}

abbrev pub sent_with : Signing → ℕ → SideView → Result Kind Decline → Result Sent Decline
sent_with signer user s (Err decline) = Err decline
sent_with signer user s (Ok kind) = Ok (sent_of s.known.size (signed_by signer (unsigned user s kind)))

abbrev pub look_sent : SideView → Bool → Sent
look_sent s whole = record {
  request = request_text (requests.Look s.known.wall s.known.size whole);
  wall = s.known.wall;
  asked = asks.Look;
  signed = None;
}

-- What a user's client asks of a wall, or why it asks nothing.
abbrev pub ask : Signing → ℕ → SideView → Command → Result Sent Decline
ask signer user s (look whole) = Ok (look_sent s whole)
ask signer user s (post text) = sent_with signer user s (posted user s text)
ask signer user s (admit other role) = sent_with signer user s (changed s (adds other role))
ask signer user s (remove other) = sent_with signer user s (changed s (drops other))
