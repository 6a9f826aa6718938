use Rattle.hall_server.specs.Seating.{IsSeatsOf}
use Rattle.client_bench.proofs.made.written.Given as goal

abbrev pub invariant-loop : goal.invariant-loop
invariant-loop g l = IsSeatsOf g.D.Digester.digest_of l.server l.seats
