use Rattle.std.proofs.Common.{length}
use Rattle.text_hall.proofs.tests.history.calls_of.Given as goal

abbrev pub decreases-loop-call : goal.decreases-loop-call
decreases-loop-call g l = length l.calls
