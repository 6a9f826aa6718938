use Rattle.std.proofs.Common.{◌≡◌, ◌≤◌, ◌+◌, [], ◌++◌, map, length, vec_len, vec_capacity}
use Rattle.std.specs.List.{All}
use Rattle.hall_gate.specs.declared.rule.Stage.TheVariants.{Idle}
use Rattle.hall_gate.specs.Knowing.{view}
use Rattle.hall_gate.specs.Plays.{seated}
use Rattle.hall_gate.specs.Seats.{state_of}
use Rattle.hall_gate.proofs.gate.Gate.deal.Given as goal

abbrev pub invariant-loop-caller : goal.invariant-loop-caller
invariant-loop-caller g l = record {
  at : l.place.table_id ≡ l.self.table.shared.table_id;
  state : l.place.me ≡ (view Idle l.place.me.0.charges [], []);
  left : length l.place.me.0.charges + l._caller-index ≡ length l.callers;
  many : vec_len l.seats ≡ l._caller-index;
  room : length l.callers ≤ vec_capacity l.seats;
  seats : All (λ seat. seat.seat.table_id ≡ l.self.table.shared.table_id) l.seats.items;
  dealt : map seated l.fn.place.me.0.charges ≡ map state_of l.seats.items ++ map seated l.place.me.0.charges;
}
