use Rattle.std.proofs.Common.{◌∙◌, arith}
use Rattle.hall_gate.specs.Knowing.{has_front}
use Rattle.hall_gate.proofs.Turning.{waits, gets_value}
use Rattle.hall_gate.proofs.gate.Gate.wait_for.Goals as goal

pub load-serving-requires : goal.load-serving-requires
load-serving-requires g c = let t = g.T.Turned in let shape = c.args.self.now.shape in (
  c.loop.invariant.3 ∙ c.requires.at,
  omega arith,
  rw (c.loop.invariant.2, c.requires.knows) (waits t.valid t.fixed t.entries t.legal t.caller _ _ _ _ _),
)

pub returns-then-serving-ticket-clause-turn : goal.returns-then-serving-ticket-clause-turn
returns-then-serving-ticket-clause-turn g c =
    let told = rw (c.loop.invariant.2, c.requires.knows) at c.load-serving.ensures.2 in let turn = told.0 c.if-serving-ticket.true in
    let t = g.T.Turned in let value = gets_value t.valid t.fixed t.entries t.caller _ _ _ turn in (
      turn.value,
      record { charge = has_front c.requires.charge turn.front; ticket = c.args.ticket; at = c.load-serving.ensures.0 ∙ (c.loop.invariant.3 ∙ c.requires.at); knows = turn.seat },
      record { good = turn.is.good; same = value.0; all = value.1 },
    )
