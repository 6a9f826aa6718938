use Rattle.std.proofs.Common.{◌≢◌, ◌<◌, ℕ, slice_index_or}
use Rattle.hall_server.proofs.seats.Seats.snapshot.Given as goal

abbrev pub invariant-loop-snapshot : goal.invariant-loop-snapshot
invariant-loop-snapshot g l = (k : ℕ) (e : _) → k < l.snapshot-index → (slice_index_or l.self.snapshots.items k e).view.wall ≢ l.wall
