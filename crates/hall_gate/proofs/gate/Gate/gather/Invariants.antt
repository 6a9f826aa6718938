use Rattle.std.proofs.Common.{◌≡◌, [], ◌++◌, map, vec_len}
use Rattle.std.specs.List.{All}
use Rattle.hall_gate.specs.declared.rule.Stage.TheVariants.{Idle}
use Rattle.hall_gate.specs.Knowing.{view}
use Rattle.hall_gate.specs.Plays.{seated}
use Rattle.hall_gate.specs.Seats.{IsSeatOf, state_of}
use Rattle.hall_gate.proofs.gate.Gate.gather.Given as goal

abbrev pub invariant-loop-seat : goal.invariant-loop-seat
invariant-loop-seat g l = record {
  at : l.place.table_id ≡ l.self.table.shared.table_id;
  state : l.place.me ≡ (view Idle l.place.me.0.charges [], []);
  seats : All (IsSeatOf l.self) l.seats.items;
  gathered : map state_of l.fn.seats.items ≡ map state_of l.seats.items ++ map seated l.place.me.0.charges;
}

abbrev pub decreases-loop-seat : goal.decreases-loop-seat
decreases-loop-seat g l = vec_len l.seats
