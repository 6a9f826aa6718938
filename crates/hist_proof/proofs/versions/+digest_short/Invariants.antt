use Rattle.hist_proof.proofs.versions.+digest_short.Given as goal

abbrev pub decreases-digest_short : goal.decreases-digest_short
decreases-digest_short g l = l.level
