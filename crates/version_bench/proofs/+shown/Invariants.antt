use Rattle.version_bench.proofs.+shown.Given as goal

abbrev pub decreases-shown : goal.decreases-shown
decreases-shown l = l.levels
