use Rattle.text_hall.proofs.Answering.{answers_turn}
use Rattle.text_hall.proofs.turns.answer.Goals as goal

pub returns-clause-turn : goal.returns-clause-turn
returns-clause-turn g c = λ owner is. let turned = c.turn.ensures in
    answers_turn g.D.Digester.digest_of owner _ _ _ _ _ turned.front (c.turns_grow.ensures _) (turned.legal owner is)
