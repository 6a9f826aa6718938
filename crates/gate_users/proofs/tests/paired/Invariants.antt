use Rattle.std.proofs.Common.{◌≡◌, ◌+◌, [], ◌∷◌, length, vec_len}
use Rattle.std.specs.List.{All}
use Rattle.hall_gate.specs.Seats.{IsSeatOf}
use Rattle.gate_users.specs.Users.{SitsAt}
use Rattle.gate_users.proofs.tests.paired.Given as goal

abbrev pub invariant-loop-one : goal.invariant-loop-one
invariant-loop-one l = record {
  first : All (IsSeatOf l.first) l.at_first.items;
  second : All (IsSeatOf l.second) l.at_second.items;
  many : length l.at_first.items ≡ length l.at_second.items;
  users : length l.users.items + length l.at_first.items ≡ length l.fn.at_first.items;
  seats : All (SitsAt (l.first ∷ l.second ∷ [])) l.users.items;
}

abbrev pub decreases-loop-one : goal.decreases-loop-one
decreases-loop-one l = vec_len l.at_first
