use Rattle.tree_model.proofs.ListChanges.{rising-with_entry}
use Rattle.tree_vectors.proofs.words.entries_at.Goals as goal

pub loop-value-preserved : goal.loop-value-preserved
loop-value-preserved c = rw (c.in_ok-set.ensures, c.deref.ensures.value) (rising-with_entry _ c.loop-value.set.items c.loop-value.invariant)
