-- The plain wall: a list of leaves, to which an operation is added where its author signed it, the law lets it stand
-- and the view that it embeds is one of this list, signed by the server. d is the digest of strings.
use Rattle.std.specs.Prelude.{◌≡◌, ◌⊎◌, ℕ, Bool, not, List, [], ◌∷◌, ◌++◌, length, map, nat_le, Option, Some, None}
use Rattle.std.specs.Option.{option_map}
use Rattle.fr_bytes.specs.Bytes.{Text}
use Rattle.fr_digest.specs.Digest.{Digest}
use Rattle.op_types.specs.declared.op.Op.{Op}
use Rattle.op_types.specs.declared.op.Leaf.{Leaf}
use Rattle.op_types.specs.declared.view.View.{View}
use Rattle.op_types.specs.declared.limits.TheConstants.{VIEW_SIZE_MAX}
use Rattle.op_types.specs.Spelling.{IsOp, leaf_text}
use Rattle.tree_model.specs.AccessList.{dict}
use Rattle.tree_model.specs.History.{root}
use Rattle.wall_law.specs.declared.refusal.LawRefusal.{LawRefusal}
use Rattle.wall_law.specs.declared.refusal.LawRefusal.TheVariants as law_refusals
use Rattle.wall_law.specs.declared.state.State.{State}
use Rattle.wall_law.specs.Law.{law}
use Rattle.wall_law.specs.Position.{is_seen}
use Rattle.wall_law.specs.Rows.{row, first_of}
use Rattle.wall_law.specs.State.{after, state_of}
use Rattle.signed_ops.specs.Signed.{is_author_signed, is_view_signed}
use Rattle.hall_core.specs.declared.ask.Ask.{Ask}
use Rattle.hall_core.specs.declared.ask.Ask.TheVariants.{Look, Append}
use Rattle.hall_core.specs.declared.ask.Answer.{Answer}
use Rattle.hall_core.specs.declared.ask.Answer.TheVariants.{Looked, Placed, Refused}
use Rattle.hall_core.specs.declared.ask.Cause.{Cause}
use Rattle.hall_core.specs.declared.ask.Cause.TheVariants.{Full, BadSignature, WrongWall, NotAllowed, StaleEpoch, Replayed, BadChange, LateView, BadView, NoMemory}
use Rattle.hall_core.specs.declared.facts.WallFacts.{WallFacts}

-- what is asked has a spelling
abbrev pub IsAsk : Ask → Type 0
IsAsk Look = Unit {0}
IsAsk (Append op) = IsOp op

abbrev pub texts_of : List Leaf → List Text
texts_of leaves = map leaf_text leaves

-- ---- what stands in the way of an operation

-- the law's refusals, each as the cause of its name
abbrev pub unlawful : LawRefusal → Cause
unlawful law_refusals.WrongWall = WrongWall
unlawful law_refusals.NotAllowed = NotAllowed
unlawful (law_refusals.StaleEpoch now) = StaleEpoch now
unlawful (law_refusals.Replayed next) = Replayed next
unlawful law_refusals.BadChange = BadChange
unlawful law_refusals.LateView = LateView

-- a view of nothing, or one whose root is that of the list's version of its size and which the server signed
abbrev pub sees : Digest → WallFacts → List Leaf → View → Bool
sees d facts leaves view = is_seen (λ v. Some (root d (texts_of leaves) v)) (is_view_signed facts.server) view

-- Why a list of leaves takes no such operation. The first that applies: the list is full; the author has no known key,
-- or the signature isn't valid under it; the law's refusals; the view that it embeds isn't one of this list.
unfoldable pub refusal_of : Digest → WallFacts → List Leaf → Op → Option Cause
refusal_of d facts leaves op = first_of (
    row (nat_le VIEW_SIZE_MAX (length leaves)) Full
    ∷ row (not (is_author_signed facts.users op)) BadSignature
    ∷ option_map unlawful (law (state_of facts.owner leaves) facts.wall (length leaves) op)
    ∷ row (not (sees d facts leaves op.view)) BadView
    ∷ [])

-- ---- answers

-- the place behind the last leaf, or why not
abbrev pub placed_or : ℕ → Option Cause → Answer
placed_or k None = Placed k
placed_or k (Some cause) = Refused cause

-- what the plain wall answers
unfoldable pub answer_to : Digest → WallFacts → List Leaf → Ask → Answer
answer_to d facts leaves Look = Looked (length leaves)
answer_to d facts leaves (Append op) = placed_or (length leaves) (refusal_of d facts leaves op)

-- The answer is that of the plain wall, or an allocation was refused.
abbrev pub Gives : Digest → WallFacts → List Leaf → Ask → Answer → Type 0
Gives d facts leaves ask answer = (answer ≡ answer_to d facts leaves ask) ⊎ (answer ≡ Refused NoMemory)

-- ---- what is left

-- the leaf of an operation: what holds after it, and the operation
abbrev pub leaf_of : Digest → State → Op → Leaf
leaf_of d s op = record { after = dict d (after s op).entries; epoch = (after s op).epoch; op = op }

-- the list with an operation's leaf at the end
abbrev pub with_leaf : Digest → WallFacts → List Leaf → Op → List Leaf
with_leaf d facts leaves op = leaves ++ leaf_of d (state_of facts.owner leaves) op ∷ []

-- The list that an answer leaves: one that was placed stands at the end, and all else leaves the list as it was.
abbrev pub where_placed : Digest → WallFacts → List Leaf → Op → Answer → List Leaf
where_placed d facts leaves op (Looked size) = leaves
where_placed d facts leaves op (Placed position) = with_leaf d facts leaves op
where_placed d facts leaves op (Refused cause) = leaves

abbrev pub left_behind : Digest → WallFacts → List Leaf → Ask → Answer → List Leaf
left_behind d facts leaves Look answer = leaves
left_behind d facts leaves (Append op) answer = where_placed d facts leaves op answer
