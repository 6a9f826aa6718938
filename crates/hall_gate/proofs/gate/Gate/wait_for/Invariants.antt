use Rattle.std.proofs.Common.{◌≡◌}
use Rattle.hall_gate.proofs.gate.Gate.wait_for.Given as goal

abbrev pub invariant-loop : goal.invariant-loop
invariant-loop g l =
    (goal.iterator-loop g).can_next l.iterator' × (goal.iterator-loop g).is_finite l.iterator' × (l.seat.seat.me ≡ l.initial.seat.seat.me) × (l.seat.seat.table_id ≡ l.initial.seat.seat.table_id)
