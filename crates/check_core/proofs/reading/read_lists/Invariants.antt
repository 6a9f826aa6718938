use Rattle.check_core.proofs.ListReading.{Reads}
use Rattle.check_core.proofs.reading.read_lists.Given as goal

abbrev pub invariant-loop-text : goal.invariant-loop-text
invariant-loop-text l = Reads l.texts l.text-index l.lists.items
