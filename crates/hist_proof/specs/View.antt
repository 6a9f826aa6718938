-- What the values of the program stand for.
use Rattle.std.specs.Box.{box_value}
use Rattle.hist_proof.specs.declared.pruned.Pruned.{Pruned, fold-Pruned}
use Rattle.hist_proof.specs.declared.pruned.Pruned.TheOpen.{Pruned-F}
use Rattle.hist_proof.specs.declared.marks.Marks.{Marks as Kept, fold-Marks}
use Rattle.hist_proof.specs.declared.marks.Marks.TheOpen.{Marks-F}
use Rattle.hist_proof.specs.Pruned.{Tree, hidden, leaf, node, single}
use Rattle.hist_proof.specs.Digested.{Marks, absent, mark_leaf, mark_node, mark_single}

abbrev pub tree_step : Pruned-F Tree → Tree
tree_step (Pruned-F.Hidden x) = hidden x
tree_step (Pruned-F.Leaf t) = leaf t
tree_step (Pruned-F.Node l r) = node (box_value l) (box_value r)
tree_step (Pruned-F.Single l) = single (box_value l)

-- the pruned tree
abbrev pub tree_view : Pruned → Tree
tree_view = fold-Pruned Tree tree_step

abbrev pub marks_step : Marks-F Marks → Marks
marks_step Marks-F.Absent = absent
marks_step (Marks-F.Leaf x) = mark_leaf x
marks_step (Marks-F.Node x a b) = mark_node x (box_value a) (box_value b)
marks_step (Marks-F.Single x a) = mark_single x (box_value a)

-- the digests of its nodes
abbrev pub marks_view : Kept → Marks
marks_view = fold-Marks Marks marks_step
