use Rattle.tree_extract.proofs.history.+compare_parts.Given as goal

abbrev pub decreases-compare_parts : goal.decreases-compare_parts
decreases-compare_parts g l = l.level
