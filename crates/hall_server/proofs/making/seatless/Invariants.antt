use Rattle.std.proofs.Common.{◌≡◌, map, take}
use Rattle.std.specs.List.{All}
use Rattle.hall_server.specs.Seating.{IsSeatless}
use Rattle.hall_server.specs.Sights.{user_of}
use Rattle.hall_server.proofs.making.seatless.Given as goal

abbrev pub invariant-loop-user : goal.invariant-loop-user
invariant-loop-user g l = record {
  users : map user_of l.all.items ≡ take l.user-index l.users;
  none : All IsSeatless l.all.items;
}
