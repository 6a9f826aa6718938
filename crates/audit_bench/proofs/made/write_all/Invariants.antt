use Rattle.std.proofs.Common.{[], ◌∷◌}
use Rattle.hall_server.specs.Seating.{IsSeatsOf}
use Rattle.run_end.specs.Ends.{AreTogether}
use Rattle.audit_bench.proofs.made.write_all.Given as goal

abbrev pub invariant-loop : goal.invariant-loop
invariant-loop g l = record {
  seats : IsSeatsOf g.D.Digester.digest_of l.server l.seats;
  together : AreTogether (l.people.note ∷ []) (l.people.writer ∷ l.people.reader ∷ []);
}
