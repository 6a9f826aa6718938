-- The one spelling of each pruned tree, and what is read at the front of a text.
use Rattle.std.specs.Prelude.{◌≡◌, ℕ, zero, suc, ◌<◌, ◌^◌, List, [], ◌∷◌, ◌++◌, length, None}
use Rattle.fr_bytes.specs.Bytes.{IsBytes, Text, counted}
use Rattle.fr_bytes.specs.Reading.{Reader, piece_at, both_at, as_at}
use Rattle.fr_bytes.specs.Format.{Format, format}
use Rattle.fr_bytes.specs.Parts.{IsLimited, limited_at, one_of, tagged_at}
use Rattle.fr_digest.specs.Digest.{digest_bytes}
use Rattle.hist_proof.specs.declared.limits.TheConstants.{HIDDEN_TAG, LEAF_TAG, NODE_TAG, SINGLE_TAG, LEAF_BYTES_MAX, LEVELS_MAX}
use Rattle.hist_proof.specs.Pruned.{Tree, hidden, leaf, node, single}

-- ---- ranges

-- 32 bytes
abbrev pub IsDig : Text → Type 0
IsDig x = (length x ≡ digest_bytes) × IsBytes x

-- The parts of a pruned tree are in range, and what is below its top is as told.
abbrev pub IsTop : (Tree → Type 0) → Tree → Type 0
IsTop IsBelow (hidden x) = IsDig x
IsTop IsBelow (leaf t) = IsLimited LEAF_BYTES_MAX t
IsTop IsBelow (node l r) = IsBelow l × IsBelow r
IsTop IsBelow (single l) = IsBelow l

abbrev pub IsNone : Tree → Type 0
IsNone p = ⊥

-- Its parts are in range, and no more than this many levels of nodes are above any of them.
unfoldable pub IsLeveled : ℕ → Tree → Type 0
IsLeveled zero p = IsTop IsNone p
IsLeveled (suc levels) p = IsTop (IsLeveled levels) p

-- The tree has a spelling.
unfoldable pub IsSpelled : Tree → Type 0
IsSpelled p = IsLeveled LEVELS_MAX p

-- Each leaf's text can be counted.
unfoldable pub HasCounts : Tree → Type 0
HasCounts (hidden x) = Unit {0}
HasCounts (leaf t) = length t < 2 ^ 32
HasCounts (node l r) = HasCounts l × HasCounts r
HasCounts (single l) = HasCounts l

-- ---- the spelling

abbrev pub tag_of : Tree → ℕ
tag_of (hidden x) = HIDDEN_TAG
tag_of (leaf t) = LEAF_TAG
tag_of (node l r) = NODE_TAG
tag_of (single l) = SINGLE_TAG

-- A tag, and behind it the digest, the text behind its length, both halves, or the left half.
unfoldable pub tree_text : Tree → Text
tree_text (hidden x) = HIDDEN_TAG ∷ x
tree_text (leaf t) = LEAF_TAG ∷ counted t
tree_text (node l r) = NODE_TAG ∷ (tree_text l ++ tree_text r)
tree_text (single l) = SINGLE_TAG ∷ tree_text l

-- what stands behind the tag
abbrev pub rest_text : Tree → Text
rest_text (hidden x) = x
rest_text (leaf t) = counted t
rest_text (node l r) = tree_text l ++ tree_text r
rest_text (single l) = tree_text l

-- the bytes spell the tree
pub record Spells (p : Tree) (bytes : Text) : Type 0 where
  pub is_spelled : IsSpelled p
  pub text : bytes ≡ tree_text p

-- ---- reading

unfoldable pub hidden_at : Reader Tree
hidden_at = as_at hidden (piece_at digest_bytes)

unfoldable pub leaf_at : Reader Tree
leaf_at = as_at leaf (limited_at LEAF_BYTES_MAX)

abbrev pub halves : Tree × Tree → Tree
halves p = node p.0 p.1

unfoldable pub node_at : Reader Tree → Reader Tree
node_at below = as_at halves (both_at below (λ left. below))

unfoldable pub single_at : Reader Tree → Reader Tree
single_at below = as_at single below

-- what stands behind each tag, where this is what may stand below a node
abbrev pub cases_of : Reader Tree → List (ℕ × Reader Tree)
cases_of below =
    (HIDDEN_TAG, hidden_at) ∷ ((LEAF_TAG, leaf_at) ∷ ((NODE_TAG, node_at below) ∷ ((SINGLE_TAG, single_at below) ∷ [])))

unfoldable pub behind_at : Reader Tree → ℕ → Reader Tree
behind_at below = one_of (cases_of below)

abbrev pub top_at : Reader Tree → Reader Tree
top_at below = tagged_at (behind_at below)

abbrev pub none_at : Reader Tree
none_at bytes = None

-- a pruned tree of no more than this many levels of nodes
unfoldable pub tree_at : ℕ → Reader Tree
tree_at zero = top_at none_at
tree_at (suc levels) = top_at (tree_at levels)

-- the format of pruned trees of no more than this many levels of nodes
abbrev pub leveled_format : ℕ → Format Tree
leveled_format levels = format (IsLeveled levels) tree_text (tree_at levels)

-- the format of pruned trees
unfoldable pub pruned_at : Reader Tree
pruned_at = tree_at LEVELS_MAX

abbrev pub pruned_format : Format Tree
pruned_format = format IsSpelled tree_text pruned_at
