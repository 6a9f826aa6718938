use Rattle.std.proofs.Common.{◌≢◌, ◌<◌, ℕ, slice_index_or}
use Rattle.hall_server.proofs.server.Server.place_of.Given as goal

abbrev pub invariant-loop-place : goal.invariant-loop-place
invariant-loop-place g l = (k e : ℕ) → k < l.place → slice_index_or l.self.walls.items k e ≢ l.wall
