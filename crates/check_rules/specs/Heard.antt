-- What a reply says: the one value that its bytes spell, its tree, its lists and its leaves included.
use Rattle.std.specs.Prelude.{ℕ, Bool, List, [], ◌∷◌, ◌++◌, length, Option, Some, None, nat_lt, is_some, ◌&&◌, if◌then◌else◌, true}
use Rattle.fr_bytes.specs.Bytes.{Text}
use Rattle.fr_bytes.specs.Reading.{◌>>=◌, all_of}
use Rattle.op_types.specs.declared.op.Leaf.{Leaf}
use Rattle.op_types.specs.declared.view.View.{View}
use Rattle.op_types.specs.Reading.{leaf_at}
use Rattle.hist_proof.specs.Pruned.{Tree, hidden, leaf, node, single}
use Rattle.hist_proof.specs.Spelling.{pruned_at}
use Rattle.pruned_list.specs.PrunedList.{PrunedList}
use Rattle.dict_proof.specs.Spelling.{dict_at}
use Rattle.msg_form.specs.declared.message.Reply.{Reply}
use Rattle.msg_form.specs.declared.message.Reply.TheVariants.{Show, Refused, KeyOps}
use Rattle.msg_form.specs.Messages.{reply_of}

-- ---- parts

-- the leaf that a text spells
abbrev pub leaf_of : Text → Option Leaf
leaf_of text = all_of leaf_at text

-- each text that the tree holds spells a leaf
unfoldable pub holds_leaves : Tree → Bool
holds_leaves (hidden x) = true
holds_leaves (leaf t) = is_some (leaf_of t)
holds_leaves (node l r) = holds_leaves l && holds_leaves r
holds_leaves (single l) = holds_leaves l

-- the pruned tree that bytes spell, where each text in it spells a leaf
abbrev pub tree_of : Text → Option Tree
tree_of bytes = all_of pruned_at bytes >>= (λ tree. if holds_leaves tree then Some tree else None)

-- the pruned lists that these texts spell, one each
unfoldable pub lists_of : List Text → Option (List PrunedList)
lists_of [] = Some []
lists_of (text ∷ texts) = all_of dict_at text >>= (λ list. lists_of texts >>= (λ lists. Some (list ∷ lists)))

-- ---- replies that show

-- A reply to a look or to an operation: a view alone; a view with the positions from `from` on, shown by a tree,
-- and a pruned access list before each; or a refusal.
pub data Heard : Type 0 where
  bare : View → Heard
  news : View → ℕ → Tree → List PrunedList → Heard
  refused : ℕ → ℕ → ℕ → Heard

-- Where it shows nothing, from is the view's size, and there is no tree.
abbrev pub heard_show : View → ℕ → Text → List Text → Option Heard
heard_show view from tree lists =
    if nat_lt from view.size
    then tree_of tree >>= (λ p. lists_of lists >>= (λ ls. Some (news view from p ls)))
    else Some (bare view)

-- Only a reply to an operation may be a refusal.
abbrev pub heard_in : Bool → Reply → Option Heard
heard_in appends (Show view from tree lists) = heard_show view from tree lists
heard_in appends (Refused wall cause number) = if appends then Some (refused wall cause number) else None
heard_in appends (KeyOps wall size tree) = None

-- what the bytes say, in reply to an operation or to a look
unfoldable pub heard_of : Bool → Text → Option Heard
heard_of appends bytes = reply_of bytes >>= heard_in appends

-- ---- replies with the changes of an access list

pub record KeysHeard : Type 0 where
  pub wall : ℕ
  pub size : ℕ
  pub tree : Tree

abbrev pub keys_in : Reply → Option KeysHeard
keys_in (Show view from tree lists) = None
keys_in (Refused wall cause number) = None
keys_in (KeyOps wall size tree) = tree_of tree >>= (λ p. Some (record { wall = wall; size = size; tree = p }))

unfoldable pub keys_heard_of : Text → Option KeysHeard
keys_heard_of bytes = reply_of bytes >>= keys_in
