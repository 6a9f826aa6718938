use Rattle.std.proofs.Common.{◌≡◌, ◌<◌, ℕ, false, slice_index_or}
use Rattle.session_run.proofs.phase.some_short.Given as goal

abbrev pub invariant-loop-lane : goal.invariant-loop-lane
invariant-loop-lane g l = (k : ℕ) (e : _) → k < l.lane-index → (slice_index_or l.fn.lanes.items k e).short ≡ false
