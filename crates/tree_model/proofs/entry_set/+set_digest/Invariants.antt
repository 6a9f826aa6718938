use Rattle.std.proofs.Common.{length}
use Rattle.tree_model.proofs.entry_set.+set_digest.Given as goal

abbrev pub decreases-set_digest : goal.decreases-set_digest
decreases-set_digest g l = length l.entries.now
