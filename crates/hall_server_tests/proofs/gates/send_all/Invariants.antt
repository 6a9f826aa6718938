use Rattle.std.specs.List.{All}
use Rattle.hall_server.specs.Seating.{IsSeatsOf}
use Rattle.hall_server_tests.proofs.gates.send_all.Given as goal

abbrev pub invariant-loop-i : goal.invariant-loop-i
invariant-loop-i g l = All (IsSeatsOf g.D.Digester.digest_of l.server) l.all
