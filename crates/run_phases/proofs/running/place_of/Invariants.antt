use Rattle.std.proofs.Common.{◌≢◌, ◌<◌, ℕ, slice_index_or}
use Rattle.hall_server.specs.Sights.{user_of}
use Rattle.run_phases.proofs.running.place_of.Given as goal

abbrev pub invariant-loop-place : goal.invariant-loop-place
invariant-loop-place g l = (k : ℕ) (e : _) → k < l.place → user_of (slice_index_or l.seats k e) ≢ l.user
