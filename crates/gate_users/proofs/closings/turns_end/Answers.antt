use Rattle.hall_gate.specs.Seats.{caller_of, front_of}
use Rattle.gate_users.proofs.closings.turns_end.Goals as goal

pub returns : goal.returns
returns g c = let t = g.T.Turned in λ next start seat value is.
    c.turns_stay.ensures t.caller next start (caller_of seat)
    (front_of seat) (t.entries value) is.begins is.mine
