use Rattle.std.specs.List.{All}
use Rattle.hall_server.specs.Seating.{IsSeatsOf}
use Rattle.session_run.specs.Phases.{IsReady}
use Rattle.sha2.specs.Sha256.{sha256}
use Rattle.session_run_tests.proofs.lanes.lanes_of.Given as goal

abbrev pub invariant-loop : goal.invariant-loop
invariant-loop l = record {
  left : All (IsSeatsOf sha256 l.server) l.all.items;
  ready : All (IsReady sha256 l.server) l.lanes.items;
}
