-- The first difference, in pre-order, of two trees of digested strings. d is the digest of strings.
use Rattle.std.specs.Prelude.{ℕ, zero, suc, ◌^◌, List, length, take, drop, Option, None, Some, nat_lt, if◌then◌else◌}
use Rattle.std.specs.Option.{option_or}
use Rattle.std.specs.Str.{bytes_eq}
use Rattle.fr_digest.specs.Digest.{Digest}
use Rattle.fr_digest.specs.Collision.{Strings}
use Rattle.tree_model.specs.History.{node_string, depth}

-- A tree of strings. A node has the string that was digested, and a tree on its left and on its right.
-- Nothing is shown where no node stands, and where no more than a digest is known.
pub data Tree : Type 0 where
  unshown : Tree
  node : List ℕ → Tree → Tree → Tree

module _ (d : Digest) where
  -- The strings of two nodes in the same place, where they differ and their digests agree.
  unfoldable pub clash_at : List ℕ → List ℕ → Option Strings
  clash_at a b =
      if bytes_eq a b then None
      else if bytes_eq (d a) (d b) then Some (record { a = a; b = b })
      else None

  -- The strings of the first such nodes in pre-order: the nodes themselves, then their left, then their
  -- right trees.
  unfoldable pub difference : Tree → Tree → Option Strings
  difference unshown t = None
  difference (node a left right) unshown = None
  difference (node a left right) (node b left' right') =
      option_or (clash_at a b) (option_or (difference left left') (difference right right'))

  -- ---- the tree over a list

  -- The strings of the node of height j over the texts, and of the nodes below it.
  unfoldable pub tree_of : ℕ → List (List ℕ) → Tree
  tree_of zero texts = node (node_string d zero texts) unshown unshown
  tree_of (suc j) texts =
      if nat_lt (2 ^ j) (length texts)
      then node (node_string d (suc j) texts) (tree_of j (take (2 ^ j) texts)) (tree_of j (drop (2 ^ j) texts))
      else node (node_string d (suc j) texts) (tree_of j texts) unshown

  -- The strings of the history tree of the texts.
  unfoldable pub history_tree : List (List ℕ) → Tree
  history_tree texts = tree_of (depth (length texts)) texts

  -- The first difference of the history trees of two lists of texts.
  unfoldable pub list_difference : List (List ℕ) → List (List ℕ) → Option Strings
  list_difference a b = difference (history_tree a) (history_tree b)
