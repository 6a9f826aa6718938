use Rattle.std.proofs.Common.{length}
use Rattle.lock_bench.proofs.runs.count.Given as goal

abbrev pub decreases-loop-call : goal.decreases-loop-call
decreases-loop-call l = length l.calls
