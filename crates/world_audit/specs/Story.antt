-- The history that a record stands for. A record shows its positions from `from` on; what is in front of them is
-- the history of another record: the one before it of the same user, or, where it skips, that of a user who vouches.
use Rattle.std.specs.Prelude.{ℕ, zero, suc, Bool, not, ◌&&◌, List, [], ◌++◌, take, find, Option, Some, None, IsSome, nat_lt, nat_eq, if◌then◌else◌, option_and_then}
use Rattle.std.specs.Option.{option_map}
use Rattle.op_types.specs.declared.op.Leaf.{Leaf}
use Rattle.world_book.specs.declared.took.Took.{Took}
use Rattle.world_book.specs.declared.world.World.{World}
use Rattle.world_book.specs.Records.{is_honest, record_of}

-- ---- the records that a record rests on

-- the record of the same user and wall that ended where this one began
abbrev pub prev : World → Took → Option Took
prev w r = if nat_lt 0 r.have then record_of w r.user r.wall r.have else None

-- An honest author whose view covers at least the positions that aren't shown.
abbrev pub vouches_for : World → ℕ → Leaf → Bool
vouches_for w from leaf = is_honest w leaf.op.author && not (nat_lt leaf.op.view.size from)

-- the first shown operation that vouches
abbrev pub voucher : World → Took → Option Leaf
voucher w r = find (vouches_for w r.from) r.leaves

abbrev pub record_seen : World → ℕ → Leaf → Option Took
record_seen w wall leaf = record_of w leaf.op.author wall leaf.op.view.size

-- its author's record of the view that it embeds
abbrev pub vouched : World → Took → Option Took
vouched w r = option_and_then (record_seen w r.wall) (voucher w r)

-- ---- the story

-- the history of the record before, and none of it where there is no such record
abbrev pub base_of : Took → Option (List Leaf) → Option (List Leaf)
base_of r below = if nat_lt 0 r.have then below else Some []

-- What is in front of the shown positions: the history of the record before; or, where the record skips, the first
-- positions of the vouching history, and then the one before must have a history too.
abbrev pub front_of : Took → Option (List Leaf) → Option (List Leaf) → Option (List Leaf)
front_of r base beside =
    if nat_eq r.from r.have then base
    else option_and_then (λ (old : List Leaf). option_map (take r.from) beside) base

-- The history of a record, over those of the two that it may rest on.
abbrev pub stands : Took → Option (List Leaf) → Option (List Leaf) → Option (List Leaf)
stands r below beside = option_map (λ (front : List Leaf). front ++ r.leaves) (front_of r (base_of r below) beside)

-- The same, where no more than this many records rest on one another.
unfoldable pub story_in : ℕ → World → Took → Option (List Leaf)
story_in zero w r = None
story_in (suc m) w r = stands r (option_and_then (story_in m w) (prev w r)) (option_and_then (story_in m w)
    (vouched w r))

-- Each record that one rests on is of fewer positions, so its size is enough.
unfoldable pub story : World → Took → Option (List Leaf)
story w r = story_in r.size w r

-- The record has a history.
abbrev pub Grounded : World → Took → Type 0
Grounded w r = IsSome (story w r)
