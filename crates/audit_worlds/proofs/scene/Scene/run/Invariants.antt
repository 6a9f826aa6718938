use Rattle.std.proofs.Common.{[], ◌∷◌}
use Rattle.std.specs.List.{All}
use Rattle.hall_server.specs.Seating.{IsSeatsOf}
use Rattle.run_end.specs.Ends.{AreTogether}
use Rattle.audit_worlds.proofs.scene.Scene.run.Given as goal

abbrev pub invariant-loop-i : goal.invariant-loop-i
invariant-loop-i g l = record {
  first : All (IsSeatsOf g.D.Digester.digest_of l.self.halls.first.server) l.self.halls.first.all.items;
  second : All (IsSeatsOf g.D.Digester.digest_of l.self.halls.second.server) l.self.halls.second.all.items;
  together : AreTogether (l.self.note ∷ []) l.self.people.clients.items;
}
