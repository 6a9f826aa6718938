use Rattle.std.proofs.Common.{◌≡◌, ◌≤◌, vec_len, vec_capacity}
use Rattle.hall_server.proofs.meeting.no_places.Given as goal

abbrev pub invariant-loop : goal.invariant-loop
invariant-loop g l = record {
  many : vec_len l.all ≡ l.counter;
  room : l.many ≤ vec_capacity l.all;
}
