use Rattle.hall_gate.specs.Seats.{caller_of, front_of}
use Rattle.hall_server.proofs.Turning.{turns_at}
use Rattle.hall_server.proofs.answering.turn_at.Goals as goal

pub returns-clause-turn : goal.returns-clause-turn
returns-clause-turn g c = λ facts known. let turn = c.turn.ensures in
    turns_at g.D.Digester.digest_of facts (caller_of c.args.seat.now) (front_of c.args.seat.now)
    (front_of c.turn.new.seat) c.args.slip.ask c.turn.result.0 turn.front (turn.legal facts known)
