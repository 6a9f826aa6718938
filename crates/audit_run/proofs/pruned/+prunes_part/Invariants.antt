use Rattle.audit_run.proofs.pruned.+prunes_part.Given as goal

abbrev pub decreases-prunes_part : goal.decreases-prunes_part
decreases-prunes_part g l = l.level
