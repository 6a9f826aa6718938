-- The digests of the nodes of a pruned tree, beside the tree. d is the digest of strings.
use Rattle.std.specs.Prelude.{◌≡◌, ℕ, ◌⊎◌}
use Rattle.fr_bytes.specs.Bytes.{Text}
use Rattle.fr_digest.specs.Digest.{Digest}
use Rattle.hist_proof.specs.Pruned.{Tree, hidden, leaf, node, single, digest_of}

-- A pruned tree, and the size that it is one of.
pub record Sized : Type 0 where
  pub tree : Tree
  pub size : ℕ

-- The digests of a tree's nodes, in the places of the nodes; absent where they aren't kept.
pub data Marks : Type 0 where
  absent : Marks
  mark_leaf : Text → Marks
  mark_node : Text → Marks → Marks → Marks
  mark_single : Text → Marks → Marks

-- The digests of all leaves and nodes. A hidden part is its digest, so none is kept beside it.
unfoldable pub marks_of : Digest → Tree → Marks
marks_of d (hidden x) = absent
marks_of d (leaf t) = mark_leaf (digest_of d (leaf t))
marks_of d (node l r) = mark_node (digest_of d (node l r)) (marks_of d l) (marks_of d r)
marks_of d (single l) = mark_single (digest_of d (single l)) (marks_of d l)

-- They are the digests of the tree's nodes, if any are kept.
abbrev pub IsMarked : Digest → Marks → Tree → Type 0
IsMarked d m p = (m ≡ absent) ⊎ (m ≡ marks_of d p)
