use Rattle.std.specs.List.{All}
use Rattle.hall_server.specs.Seating.{IsSeatsOf}
use Rattle.client_server_tests.proofs.scene.Scene.run.Given as goal

abbrev pub invariant-loop-i : goal.invariant-loop-i
invariant-loop-i g l = All (IsSeatsOf g.D.Digester.digest_of l.self.server) l.self.all.items
