use Rattle.std.proofs.Common.{[], ◌∷◌}
use Rattle.std.specs.List.{All}
use Rattle.hall_server.specs.Seating.{IsSeatsOf}
use Rattle.run_end.specs.Ends.{AreTogether}
use Rattle.audit_worlds.proofs.tests.left.Given as goal

abbrev pub invariant-loop-rows : goal.invariant-loop-rows
invariant-loop-rows g l = record {
  first : All (IsSeatsOf g.D.Digester.digest_of l.scene.halls.first.server) l.scene.halls.first.all.items;
  second : All (IsSeatsOf g.D.Digester.digest_of l.scene.halls.second.server) l.scene.halls.second.all.items;
  together : AreTogether (l.scene.note ∷ []) l.scene.people.clients.items;
}
