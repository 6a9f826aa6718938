-- The leaves that a pruned tree of a size shows.
use Rattle.std.specs.Prelude.{ℕ, zero, suc, ◌+◌, ◌-◌, Bool, true, ◌&&◌, List, [], ◌∷◌, ◌++◌, Option, Some, None, nat_lt, is_some, if◌then◌else◌, option_and_then, filter, map}
use Rattle.op_types.specs.declared.op.Leaf.{Leaf}
use Rattle.op_types.specs.declared.op.Op.{Op}
use Rattle.op_types.specs.Kinds.{is_change}
use Rattle.hist_proof.specs.Pruned.{Tree, hidden, leaf, node, single}
use Rattle.hist_proof.specs.Shown.{shown}
use Rattle.check_rules.specs.Heard.{leaf_of}

-- the leaf at position k, where it is shown
abbrev pub leaf_shown : Tree → ℕ → ℕ → Option Leaf
leaf_shown tree size k = option_and_then leaf_of (shown tree size k)

abbrev pub with_some : {A : Type 0} → Option A → List A → List A
with_some None xs = xs
with_some (Some x) xs = x ∷ xs

-- what there is at so many places from k on, in order
unfoldable pub present : {A : Type 0} → (ℕ → Option A) → ℕ → ℕ → List A
present at k zero = []
present at k (suc count) = with_some (at k) (present at (k + 1) count)

-- the leaves that are shown among so many positions from k on
abbrev pub leaves_among : Tree → ℕ → ℕ → ℕ → List Leaf
leaves_among tree size k count = present (leaf_shown tree size) k count

-- the leaves that are shown at the positions from `from` on
abbrev pub leaves_from : Tree → ℕ → ℕ → List Leaf
leaves_from tree size from = leaves_among tree size from (size - from)

-- Each of so many positions from k on is shown.
unfoldable pub shows_among : Tree → ℕ → ℕ → ℕ → Bool
shows_among tree size k zero = true
shows_among tree size k (suc count) = is_some (shown tree size k) && shows_among tree size (k + 1) count

-- each position from `from` on is shown
abbrev pub shows_from : Tree → ℕ → ℕ → Bool
shows_from tree size from = shows_among tree size from (size - from)

-- the leaf in front of position `from`, where there is one and it is shown
abbrev pub anchor : Tree → ℕ → ℕ → Option Leaf
anchor tree size from = if nat_lt 0 from then leaf_shown tree size (from - 1) else None

-- all leaves that a tree holds, from left to right, whatever its size
unfoldable pub leaves_in : Tree → List Leaf
leaves_in (hidden x) = []
leaves_in (leaf t) = with_some (leaf_of t) []
leaves_in (node l r) = leaves_in l ++ leaves_in r
leaves_in (single l) = leaves_in l

-- the operations among leaves that change the access list
abbrev pub changes_of : List Leaf → List Op
changes_of leaves = filter (λ (op : Op). is_change op.kind) (map (λ (l : Leaf). l.op) leaves)
