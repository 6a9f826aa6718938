use Rattle.hist_proof.proofs.versions.+digest_in.Given as goal

abbrev pub decreases-digest_in : goal.decreases-digest_in
decreases-digest_in g l = l.level
