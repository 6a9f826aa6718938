use Rattle.tree_model.proofs.ListChanges.{rising-with_entry}
use Rattle.tree_model.proofs.set_tests.list_of.Goals as goal

pub loop-row-preserved : goal.loop-row-preserved
loop-row-preserved c = rw (c.in_ok-list.ensures, c.deref.ensures.value) (rising-with_entry _ c.loop-row.list.items c.loop-row.invariant)
