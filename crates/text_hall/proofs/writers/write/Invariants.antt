use Rattle.std.proofs.Common.{◌≡◌}
use Rattle.hall_gate.specs.Seats.{caller_of, IsSeatOf}
use Rattle.text_hall.proofs.writers.write.Given as goal

abbrev pub invariant-loop-place : goal.invariant-loop-place
invariant-loop-place g l = record {
  seat_of : IsSeatOf l.gate l.seat;
  callers_seat : caller_of l.seat ≡ l.caller;
}
