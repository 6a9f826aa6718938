use Rattle.std.proofs.Common.{vec_len}
use Rattle.std.specs.List.{All}
use Rattle.hall_server.specs.Seating.{IsSeatsOf}
use Rattle.sha2.specs.Sha256.{sha256}
use Rattle.session_run_tests.proofs.lanes.parted.Given as goal

abbrev pub invariant-loop-lane : goal.invariant-loop-lane
invariant-loop-lane l = record {
  left : All (λ lane. IsSeatsOf sha256 l.server lane.session.seats) l.lanes.items;
  taken : All (IsSeatsOf sha256 l.server) l.all.items;
}

abbrev pub decreases-loop-lane : goal.decreases-loop-lane
decreases-loop-lane l = vec_len l.lanes
