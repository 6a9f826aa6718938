-- The first difference of a pruned tree and the history tree of a list. d is the digest of strings.
use Rattle.std.specs.Prelude.{List, Option}
use Rattle.fr_bytes.specs.Bytes.{Text}
use Rattle.fr_digest.specs.Collision.{Strings}
use Rattle.fr_digest.specs.Digest.{Digest}
use Rattle.hist_proof.specs.Pruned.{Tree as Pruned, hidden, leaf, node as fork, single, digest_of}
use Rattle.tree_model.specs.History.{leaf_string, pair_string, single_string}
use Rattle.tree_extract.specs.Difference.{Tree, unshown, node, difference, history_tree}

-- The strings of a pruned tree: of each leaf and node the one that was digested, and nothing of a hidden part.
unfoldable pub pruned_tree : Digest → Pruned → Tree
pruned_tree d (hidden x) = unshown
pruned_tree d (leaf t) = node (leaf_string t) unshown unshown
pruned_tree d (fork l r) = node (pair_string (digest_of d l) (digest_of d r)) (pruned_tree d l) (pruned_tree d r)
pruned_tree d (single l) = node (single_string (digest_of d l)) (pruned_tree d l) unshown

-- The first difference of a pruned tree and the history tree of the texts.
unfoldable pub history_difference : Digest → Pruned → List Text → Option Strings
history_difference d p texts = difference d (pruned_tree d p) (history_tree d texts)
