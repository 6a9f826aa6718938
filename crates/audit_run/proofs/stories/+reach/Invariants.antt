use Rattle.audit_run.proofs.stories.+reach.Given as goal

abbrev pub decreases-reach : goal.decreases-reach
decreases-reach g l = l.fuel
