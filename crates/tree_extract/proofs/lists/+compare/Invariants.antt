use Rattle.tree_extract.proofs.lists.+compare.Given as goal

abbrev pub decreases-compare : goal.decreases-compare
decreases-compare g l = l.level
