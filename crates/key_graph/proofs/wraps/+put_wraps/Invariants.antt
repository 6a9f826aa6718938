use Rattle.key_graph.proofs.wraps.+put_wraps.Given as goal

abbrev pub decreases-put_wraps : goal.decreases-put_wraps
decreases-put_wraps l = l.levels
