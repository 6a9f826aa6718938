use Rattle.hall_gate.proofs.Turns.{takes_turn}
use Rattle.hall_gate.proofs.gate.Gate.turn.Goals as goal

pub returns-clause-front : goal.returns-clause-front
returns-clause-front g c = let t = g.T.Turned in
    let sees = rw c.draw-ticket.ensures.same at c.wait_for.ensures.sees.sees in
    let adds = rw (c.wait_for.ensures.sees.same.caller, c.draw-ticket.ensures.same) at c.work.ensures.front in
    takes_turn t.caller t.ask t.answer _ _ _ _ _ _ sees adds
