use Rattle.std.proofs.Common.{◌≡◌}
use Rattle.hall_server.specs.Moves.{places_first, seated_first}
use Rattle.hall_server.proofs.meeting.swap_places.Given as goal

abbrev pub invariant-loop-user : goal.invariant-loop-user
invariant-loop-user g l = record {
  seats : l.seats.items ≡ seated_first l.user l.initial.seats.items l.initial.places.items;
  places : l.places.items ≡ places_first l.user l.initial.seats.items l.initial.places.items;
}
