-- What a client makes of a reply: the first of named rows that applies, in this order. It is a function of what the
-- client knows, of what it asked and of the bytes. d is the digest of strings.
use Rattle.std.specs.Prelude.{ℕ, ◌+◌, ◌-◌, Bool, true, false, not, ◌&&◌, ◌||◌, List, [], ◌∷◌, length, map, Option, Some, None, Result, Ok, Err, nat_lt, nat_eq, ◌==◌, is_none, if◌then◌else◌, option_and_then}
use Rattle.std.specs.List.{list_any}
use Rattle.std.specs.Option.{option_or, option_map}
use Rattle.std.specs.Str.{bytes_eq}
use Rattle.fr_bytes.specs.Bytes.{Text}
use Rattle.fr_digest.specs.Digest.{Digest}
use Rattle.op_types.specs.declared.op.Leaf.{Leaf}
use Rattle.op_types.specs.declared.op.Op.{Op}
use Rattle.op_types.specs.declared.kind.Kind.{Kind}
use Rattle.op_types.specs.declared.view.View.{View}
use Rattle.op_types.specs.Kinds.{changed_user}
use Rattle.op_types.specs.Spelling.{op_text}
use Rattle.tree_model.specs.declared.entry.Entry.{Entry}
use Rattle.hist_proof.specs.Pruned.{Tree, fits, cut, at}
use Rattle.hist_proof.specs.Pruned as trees
use Rattle.pruned_list.specs.PrunedList.{PrunedList, Sought, hid, found, seek, changed}
use Rattle.pruned_list.specs.PrunedList as lists
use Rattle.wall_law.specs.declared.refusal.LawRefusal.{LawRefusal}
use Rattle.wall_law.specs.declared.refusal.LawRefusal.TheVariants as laws
use Rattle.wall_law.specs.declared.refusal.PositionRefusal.{PositionRefusal}
use Rattle.wall_law.specs.declared.refusal.PositionRefusal.TheVariants as refusals
use Rattle.wall_law.specs.State.{opening, change_of}
use Rattle.wall_law.specs.Lawful.{Told, told, told_of}
use Rattle.wall_law.specs.Position.{Finding, is_root, is_seen, position_refusal}
use Rattle.wall_law.specs.Rows.{row, first_of}
use Rattle.signed_ops.specs.Signed.{is_author_signed, is_view_signed}
use Rattle.vouch_rule.specs.declared.vouch.Vouch.{Vouch}
use Rattle.vouch_rule.specs.Vouching.{vouchers}
use Rattle.msg_form.specs.declared.verdict.Verdict.{Verdict}
use Rattle.msg_form.specs.declared.verdict.Verdict.TheVariants as verdicts
use Rattle.check_rules.specs.declared.known.Known.{Known}
use Rattle.check_rules.specs.declared.asked.Asked.{Asked}
use Rattle.check_rules.specs.declared.asked.Asked.TheVariants.{Look, Append}
use Rattle.check_rules.specs.Heard.{Heard, bare, news, refused, heard_of, KeysHeard, keys_heard_of}
use Rattle.check_rules.specs.Shown.{leaves_from, shows_from, anchor, leaves_in, changes_of}

-- ---- the view

abbrev pub is_other_root : Text → Text → Bool
is_other_root x y = not (bytes_eq x y)

-- The view covers as many positions as the client has accepted, and there are some.
abbrev pub is_level : Known → View → Bool
is_level known view = nat_eq view.size known.size && nat_lt 0 known.size

-- The rows over the view alone; whether the reply is of another wall is told in front of them.
unfoldable pub early_verdict : Known → Bool → View → Option Verdict
early_verdict known other_wall view = first_of (
    row other_wall verdicts.WrongWall
    ∷ row (nat_lt 0 view.size && not (is_view_signed known.server view)) verdicts.BadServerSignature
    ∷ row (nat_lt view.size known.size) verdicts.Shorter
    ∷ row (is_level known view && is_other_root view.root known.root) verdicts.Forked
    ∷ [])

abbrev pub is_other_wall : Known → ℕ → Bool
is_other_wall known wall = not (nat_eq wall known.wall)

-- An operation that is shown at a position from `from` on is of another wall.
abbrev pub shows_other_wall : Known → ℕ → Tree → ℕ → Bool
shows_other_wall known size tree from =
    list_any (λ (l : Leaf). is_other_wall known l.op.wall) (leaves_from tree size from)

-- ---- positions

abbrev pub looked : Sought → Option (Option Entry)
looked hid = None
looked (found entry) = Some entry

-- what the look-up of a user finds, and nothing where there is none to look up
abbrev pub looked_user : PrunedList → Option ℕ → Option (Option Entry)
looked_user list None = Some None
looked_user list (Some user) = looked (seek list user)

-- what is found at a position, in the list that is shown before it and in the tree of this size
abbrev pub finding : Digest → Known → Tree → ℕ → PrunedList → Leaf → Finding
finding d known tree size list leaf = record {
  signed = is_author_signed known.users leaf.op;
  list = lists.digest_of d list;
  author = looked (seek list leaf.op.author);
  changed = looked_user list (changed_user leaf.op.kind);
  after = option_map (lists.digest_of d) (changed list leaf.op.author (leaf.op.seq + 1) (change_of leaf.op.kind));
  seen = is_seen (at d tree size) (is_view_signed known.server) leaf.op.view;
}

-- ---- a position's verdict

abbrev pub law_verdict : ℕ → LawRefusal → Verdict
law_verdict k laws.WrongWall = verdicts.WrongWall
law_verdict k laws.NotAllowed = verdicts.NotAllowed k
law_verdict k (laws.StaleEpoch now) = verdicts.StaleEpoch k now
law_verdict k (laws.Replayed next) = verdicts.Replayed k next
law_verdict k laws.BadChange = verdicts.BadChange k
law_verdict k laws.LateView = verdicts.LateView k

abbrev pub verdict_at : ℕ → PositionRefusal → Verdict
verdict_at k refusals.BadAuthorSignature = verdicts.BadAuthorSignature k
verdict_at k refusals.BadDictProof = verdicts.BadDictProof k
verdict_at k (refusals.Unlawful refusal) = law_verdict k refusal
verdict_at k refusals.BadView = verdicts.BadView k
verdict_at k refusals.WrongAfter = verdicts.WrongAfter k

abbrev pub position_verdict : Digest → Known → Tree → ℕ → Told → ℕ → Leaf → PrunedList → Option Verdict
position_verdict d known tree size before k leaf list =
    option_map (verdict_at k) (position_refusal before known.wall k leaf (finding d known tree size list leaf))

-- The positions from k on, in order, each with its list and with what the leaf in front of it tells.
unfoldable pub positions_verdict : Digest → Known → Tree → ℕ → Told → ℕ → List Leaf → List PrunedList → Option Verdict
positions_verdict d known tree size before k [] lists = None
positions_verdict d known tree size before k (leaf ∷ leaves) [] = None
positions_verdict d known tree size before k (leaf ∷ leaves) (list ∷ lists) = option_or
    (position_verdict d known tree size before k leaf list)
    (positions_verdict d known tree size (told leaf) (k + 1) leaves lists)

-- what is told in front of position `from`: by the anchor, and at position 0 by the opening state
abbrev pub told_before : Digest → ℕ → Option Leaf → Told
told_before d owner None = told_of d (opening owner)
told_before d owner (Some leaf) = told leaf

-- ---- what is shown

-- the operations that are shown, as they vouch
abbrev pub vouches : List Leaf → List Vouch
vouches leaves = map (λ (l : Leaf). record { author = l.op.author; size = l.op.view.size }) leaves

-- how many users vouch for the positions that aren't shown
abbrev pub vouchers_found : List Leaf → ℕ → ℕ
vouchers_found leaves from = vouchers (vouches leaves) from

-- It isn't a pruned tree of the size; or a position from `from` on, or the one in front of `from`, isn't shown; or the
-- version that the client has accepted can't be computed.
abbrev pub is_bad_shape : Known → ℕ → ℕ → Tree → Bool
is_bad_shape known size from tree =
    not (fits tree size)
    || (not (shows_from tree size (from - 1)) || (nat_lt 0 known.size && is_none (cut tree size known.size)))

-- What is shown begins behind what the client has accepted, or at no position.
abbrev pub is_bad_from : Known → View → ℕ → Bool
is_bad_from known view from = nat_lt from known.size || not (nat_lt from view.size)

-- The rows over the tree of a view that covers more than the client has accepted.
unfoldable pub tree_verdict : Digest → Known → View → ℕ → Tree → Option Verdict
tree_verdict d known view from tree = first_of (
    row (is_bad_from known view from) verdicts.BadFrom
    ∷ row (is_bad_shape known view.size from tree) verdicts.BadShape
    ∷ row (is_other_root (trees.digest_of d tree) view.root) verdicts.RootMismatch
    ∷ row (nat_lt 0 known.size && not (is_root (at d tree view.size known.size) known.root)) verdicts.Forked
    ∷ [])

-- Where positions are left out, more than f of those who made the leaves that are shown vouch for them.
unfoldable pub vouch_verdict : Known → ℕ → List Leaf → Option Verdict
vouch_verdict known from leaves =
    row (nat_lt known.size from && not (nat_lt known.f (vouchers_found leaves from)))
    (verdicts.TooFewVouch (vouchers_found leaves from) (known.f + 1))

-- The rows over the tree, over who vouches, and over the positions from `from` on.
unfoldable pub late_verdict : Digest → Known → View → ℕ → Tree → List PrunedList → Option Verdict
late_verdict d known view from tree lists = first_of (
    tree_verdict d known view from tree
    ∷ vouch_verdict known from (leaves_from tree view.size from)
    ∷ positions_verdict d known tree view.size (told_before d known.owner (anchor tree view.size from)) from
    (leaves_from tree view.size from) lists
    ∷ [])

-- ---- all of it

-- What is made of a reply: the client has accepted what it says; or it takes a view, with what was shown from `from`
-- on; or the server refused the operation that was sent.
pub data Judged : Type 0 where
  same : ℕ → Judged
  taken : View → ℕ → Tree → List Leaf → List PrunedList → Judged
  refusal : ℕ → ℕ → Judged

abbrev pub Judgement : Type 0
Judgement = Result Judged Verdict

abbrev pub rejected_or : Judgement → Option Verdict → Judgement
rejected_or other None = other
rejected_or other (Some verdict) = Err verdict

-- a leaf holds the operation of these bytes
abbrev pub holds : List Leaf → Text → Bool
holds leaves op = list_any (λ (l : Leaf). bytes_eq (op_text l.op) op) leaves

-- what was sent, if it was an operation, stands among the leaves
abbrev pub is_answered : Asked → List Leaf → Bool
is_answered Look leaves = true
is_answered (Append op) leaves = holds leaves op

-- where the view covers what the client has accepted and no more
abbrev pub nothing_new : Asked → ℕ → Judgement
nothing_new Look size = Ok (same size)
nothing_new (Append op) size = Err verdicts.Missing

abbrev pub is_append : Asked → Bool
is_append Look = false
is_append (Append op) = true

-- a view that shows nothing of what is new
abbrev pub judged_bare : Known → Asked → View → Judgement
judged_bare known asked view = rejected_or
    (if nat_eq view.size known.size then nothing_new asked view.size else Err verdicts.BadFrom)
    (early_verdict known (is_other_wall known view.wall) view)

abbrev pub answered_or : Asked → List Leaf → Judgement → Judgement
answered_or asked leaves accepted = if is_answered asked leaves then accepted else Err verdicts.Missing

-- a view that covers more than the client has accepted, and what is shown of it
unfoldable pub judged_later : Digest → Known → Asked → View → ℕ → Tree → List PrunedList → Judgement
judged_later d known asked view from tree lists = rejected_or
    (answered_or asked (leaves_from tree view.size from)
    (Ok (taken view from tree (leaves_from tree view.size from) lists)))
    (late_verdict d known view from tree lists)

unfoldable pub judged_news : Digest → Known → Asked → View → ℕ → Tree → List PrunedList → Judgement
judged_news d known asked view from tree lists = rejected_or
    (if nat_eq view.size known.size then nothing_new asked view.size
    else judged_later d known asked view from tree lists)
    (early_verdict known
    (is_other_wall known view.wall || (fits tree view.size && shows_other_wall known view.size tree from)) view)

abbrev pub judged_refusal : Known → ℕ → ℕ → ℕ → Judgement
judged_refusal known wall cause number =
    if is_other_wall known wall then Err verdicts.WrongWall else Ok (refusal cause number)

abbrev pub judged_heard : Digest → Known → Asked → Option Heard → Judgement
judged_heard d known asked None = Err verdicts.Garbled
judged_heard d known asked (Some (bare view)) = judged_bare known asked view
judged_heard d known asked (Some (news view from tree lists)) = judged_news d known asked view from tree lists
judged_heard d known asked (Some (refused wall cause number)) = judged_refusal known wall cause number

-- What a client that knows this, and asked this, makes of the bytes of a reply.
unfoldable pub judged : Digest → Known → Asked → Text → Judgement
judged d known asked bytes = judged_heard d known asked (heard_of (is_append asked) bytes)

-- ---- the changes of an access list

unfoldable pub keys_verdict : Digest → Known → KeysHeard → Option Verdict
keys_verdict d known reply = first_of (
    row (is_other_wall known reply.wall) verdicts.WrongWall
    ∷ row (not (nat_eq reply.size known.size) || not (fits reply.tree reply.size)) verdicts.BadShape
    ∷ row (is_other_root (trees.digest_of d reply.tree) known.root) verdicts.RootMismatch
    ∷ row (not (nat_eq (length (changes_of (leaves_in reply.tree))) known.epoch))
    (verdicts.KeysMissing (length (changes_of (leaves_in reply.tree))) known.epoch)
    ∷ [])

abbrev pub changes_or : List Op → Option Verdict → Result (List Op) Verdict
changes_or changes None = Ok changes
changes_or changes (Some verdict) = Err verdict

abbrev pub keys_judged_heard : Digest → Known → Option KeysHeard → Result (List Op) Verdict
keys_judged_heard d known None = Err verdicts.Garbled
keys_judged_heard d known (Some reply) = changes_or (changes_of (leaves_in reply.tree)) (keys_verdict d known reply)

-- What a client that knows this makes of the bytes of a reply with the changes of an access list.
unfoldable pub keys_judged : Digest → Known → Text → Result (List Op) Verdict
keys_judged d known bytes = keys_judged_heard d known (keys_heard_of bytes)
