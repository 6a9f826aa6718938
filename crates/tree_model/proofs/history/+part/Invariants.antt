use Rattle.tree_model.proofs.history.+part.Given as goal

abbrev pub decreases-part : goal.decreases-part
decreases-part g l = l.level
