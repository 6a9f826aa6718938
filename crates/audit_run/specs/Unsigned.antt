-- The first operation that stands in the name of a user who never signed it.
use Rattle.std.specs.Prelude.{◌≡◌, true, List, ◌∷◌, ◌++◌, Option, None, Some}
use Rattle.std.specs.List.{AllByRecursion, flat_map}
use Rattle.op_types.specs.declared.op.Leaf.{Leaf}
use Rattle.world_book.specs.declared.took.Took.{Took}
use Rattle.world_book.specs.declared.world.World.{World}
use Rattle.world_book.specs.Records.{Signs, is_honest, records_of}

-- the leaves that records show: the users rising, each one's records in order, each one's positions in order
abbrev pub leaves_of : List Took → List Leaf
leaves_of records = flat_map (λ (r : Took). r.leaves) records

abbrev pub shown_leaves : World → List Leaf
shown_leaves w = leaves_of (records_of w)

-- Where its author is honest, the author signed its operation.
abbrev pub IsOwned : World → Leaf → Type 0
IsOwned w leaf = is_honest w leaf.op.author ≡ true → Signs w leaf.op.author leaf.op

-- It is one of these leaves; its author is honest and never signed its operation; and of those before it each one that
-- has an honest author is of an operation that the author signed.
pub record IsFirstUnsigned (w : World) (leaves : List Leaf) (leaf : Leaf) : Type 0 where
  pub before : List Leaf
  pub behind : List Leaf
  pub shown : leaves ≡ before ++ leaf ∷ behind
  pub owned : AllByRecursion (IsOwned w) before
  pub honest : is_honest w leaf.op.author ≡ true
  pub unsigned : Signs w leaf.op.author leaf.op → ⊥

-- There is none, or this is the first.
unfoldable pub IsSearched : World → List Leaf → Option Leaf → Type 0
IsSearched w leaves None = AllByRecursion (IsOwned w) leaves
IsSearched w leaves (Some leaf) = IsFirstUnsigned w leaves leaf
