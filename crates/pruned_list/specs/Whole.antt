-- Pruned lists in which nothing is hidden, as treaps.
use Rattle.tree_model.specs.Treap as treap
use Rattle.pruned_list.specs.PrunedList.{PrunedList, absent, hidden, node}

-- The treap of what is shown.
unfoldable pub treap_of : PrunedList → treap.Treap
treap_of absent = treap.empty
treap_of (hidden x) = treap.empty
treap_of (node e l r) = treap.node e (treap_of l) (treap_of r)
