use Rattle.std.proofs.Common.{◌≡◌, ◌≤◌, vec_len, vec_capacity}
use Rattle.hall_gate.proofs.parking.Parking.new.Given as goal

abbrev pub invariant-loop : goal.invariant-loop
invariant-loop l = record {
  many : vec_len l.words ≡ l.counter;
  room : l.callers ≤ vec_capacity l.words;
}
