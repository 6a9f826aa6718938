-- What each value of the program stands for, by its kind.
use Rattle.std.proofs.Common.{◌≡◌, rules}
use Rattle.std.specs.Box.{box_value}
use Rattle.hist_proof.specs.declared.pruned.Pruned as pruned
use Rattle.hist_proof.specs.declared.marks.Marks as kept
use Rattle.hist_proof.specs.Pruned.{hidden, leaf, node, single}
use Rattle.hist_proof.specs.Digested.{absent, mark_leaf, mark_node, mark_single}
use Rattle.hist_proof.specs.View.{tree_view, marks_view}

pub tree_view-hidden : (x : _) → tree_view (pruned.Hidden x) ≡ hidden x
tree_view-hidden x = search (rules, pruned.the_lemmas)

pub tree_view-leaf : (t : _) → tree_view (pruned.Leaf t) ≡ leaf t
tree_view-leaf t = search (rules, pruned.the_lemmas)

pub tree_view-node : (l r : _) → tree_view (pruned.Node l r) ≡ node (tree_view (box_value l)) (tree_view (box_value r))
tree_view-node l r = search (rules, pruned.the_lemmas)

pub tree_view-single : (l : _) → tree_view (pruned.Single l) ≡ single (tree_view (box_value l))
tree_view-single l = search (rules, pruned.the_lemmas)

pub marks_view-absent : marks_view kept.Absent ≡ absent
marks_view-absent = search (rules, kept.the_lemmas)

pub marks_view-leaf : (x : _) → marks_view (kept.Leaf x) ≡ mark_leaf x
marks_view-leaf x = search (rules, kept.the_lemmas)

pub marks_view-node : (x a b : _)
    → marks_view (kept.Node x a b) ≡ mark_node x (marks_view (box_value a)) (marks_view (box_value b))
marks_view-node x a b = search (rules, kept.the_lemmas)

pub marks_view-single : (x a : _) → marks_view (kept.Single x a) ≡ mark_single x (marks_view (box_value a))
marks_view-single x a = search (rules, kept.the_lemmas)

pub ruleset tree_views = (tree_view-hidden, tree_view-leaf, tree_view-node, tree_view-single)

pub ruleset marks_views = (marks_view-absent, marks_view-leaf, marks_view-node, marks_view-single)
