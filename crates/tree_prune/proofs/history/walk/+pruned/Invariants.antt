use Rattle.tree_prune.proofs.history.walk.+pruned.Given as goal

abbrev pub decreases-pruned : goal.decreases-pruned
decreases-pruned g l = l.level
