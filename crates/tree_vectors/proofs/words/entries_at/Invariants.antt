use Rattle.tree_model.specs.AccessList.{IsRising}
use Rattle.tree_vectors.proofs.words.entries_at.Given as goal

abbrev pub invariant-loop-value : goal.invariant-loop-value
invariant-loop-value l = IsRising l.set.items
