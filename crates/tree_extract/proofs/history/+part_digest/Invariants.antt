use Rattle.tree_extract.proofs.history.+part_digest.Given as goal

abbrev pub decreases-part_digest : goal.decreases-part_digest
decreases-part_digest g l = l.level
