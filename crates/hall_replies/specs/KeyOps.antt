-- The changes of a wall's access list as a tree shows them. d is the digest of strings.
use Rattle.std.specs.Prelude.{Bool, List, [], length, map}
use Rattle.fr_digest.specs.Digest.{Digest}
use Rattle.op_types.specs.declared.op.Leaf.{Leaf}
use Rattle.op_types.specs.Kinds.{is_change}
use Rattle.tree_model.specs.History.{depth, part}
use Rattle.hist_proof.specs.Pruned.{Tree}
use Rattle.tree_prune.specs.LeastHistory.{least}
use Rattle.honest_replies.specs.HonestNews.{texts_of}

-- a mark for each leaf, set where it changes the access list
abbrev pub change_marks : List Leaf → List Bool
change_marks leaves = map (λ (l : Leaf). is_change l.op.kind) leaves

-- the least pruned tree that shows the changes
unfoldable pub key_tree : Digest → List Leaf → Tree
key_tree d leaves = least (part d) (depth (length leaves)) (texts_of leaves) (change_marks leaves) []
