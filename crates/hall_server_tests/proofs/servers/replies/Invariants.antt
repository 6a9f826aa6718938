use Rattle.hall_server.specs.Seating.{IsSeatsOf}
use Rattle.hall_server_tests.proofs.servers.replies.Given as goal

abbrev pub invariant-loop-request : goal.invariant-loop-request
invariant-loop-request g l = IsSeatsOf g.D.Digester.digest_of l.server l.seats
