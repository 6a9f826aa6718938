-- What a client makes of a reply: its news, and the side that it is left with.
use Rattle.std.specs.Prelude.{ℕ, ◌+◌, List, [], ◌∷◌, length, Result, Ok, Err, nat_eq, if◌then◌else◌}
use Rattle.fr_bytes.specs.Bytes.{Text}
use Rattle.fr_digest.specs.Digest.{Digest}
use Rattle.op_types.specs.declared.op.Leaf.{Leaf}
use Rattle.op_types.specs.declared.op.Op.{Op}
use Rattle.op_types.specs.declared.view.View.{View}
use Rattle.msg_form.specs.declared.verdict.Verdict.{Verdict}
use Rattle.check_rules.specs.declared.asked.Asked.{Asked}
use Rattle.check_rules.specs.Shown.{changes_of}
use Rattle.check_rules.specs.Verdict.{Judged, Judgement, same, taken, refusal, judged}
use Rattle.client_core.specs.declared.news.News.{News}
use Rattle.client_core.specs.declared.news.News.TheVariants as news
use Rattle.client_core.specs.Keys.{KeysView, after_changes, fresh, held}
use Rattle.client_core.specs.Sides.{SideView}

-- ---- what is shown

-- the epoch after the last of these leaves
abbrev pub epoch_after : ℕ → List Leaf → ℕ
epoch_after epoch [] = epoch
epoch_after epoch (leaf ∷ leaves) = epoch_after leaf.epoch leaves

-- The changes that are shown are learnt where they and those that are held are all up to the epoch; else none is.
unfoldable pub keys_after : KeysView → ℕ → List Leaf → KeysView
keys_after keys epoch leaves =
    if nat_eq (held keys + length (changes_of leaves)) epoch then after_changes keys (changes_of leaves) else keys

-- the side that has accepted this view, with the epoch and the keys after it
abbrev pub accepting : SideView → View → ℕ → KeysView → SideView
accepting s view epoch keys = record s {
  known = record s.known { size = view.size; root = view.root; epoch = epoch };
  view = view;
  keys = keys;
}

-- and with what its leaves make of the epoch and the keys
abbrev pub accepting_all : SideView → View → List Leaf → SideView
accepting_all s view leaves =
    let epoch = epoch_after s.known.epoch leaves in
    accepting s view epoch (keys_after s.keys epoch leaves)

-- ---- taking

abbrev pub news_of : Judged → News
news_of (same size) = news.Same size
news_of (taken view from tree leaves lists) = news.Took view.size from leaves
news_of (refusal cause number) = news.Refused cause number

abbrev pub side_after : SideView → Judged → SideView
side_after s (same size) = s
side_after s (taken view from tree leaves lists) = accepting_all s view leaves
side_after s (refusal cause number) = s

abbrev pub heard : SideView → Judgement → Result (News × SideView) Verdict
heard s (Ok j) = Ok (news_of j, side_after s j)
heard s (Err verdict) = Err verdict

-- What a side makes of the bytes of a reply: its news with the side afterwards, or why it rejects them.
abbrev pub take : Digest → SideView → Asked → Text → Result (News × SideView) Verdict
take d s asked bytes = heard s (judged d s.known asked bytes)

-- the side after the changes of a whole history
abbrev pub relearnt : SideView → List Op → SideView
relearnt s changes = record s { keys = after_changes (fresh s.keys) changes }
