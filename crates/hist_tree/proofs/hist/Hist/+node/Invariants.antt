use Rattle.hist_tree.proofs.hist.Hist.+node.Given as goal

abbrev pub decreases-node : goal.decreases-node
decreases-node g l = l.level
