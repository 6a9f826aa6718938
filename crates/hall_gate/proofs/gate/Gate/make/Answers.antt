use Rattle.std.proofs.Common.{◌∙◌}
use Rattle.hall_gate.proofs.Dealing.{dealt_callers, dealt_seats, dealt_fronts, dealt_fixed}
use Rattle.hall_gate.proofs.gate.Gate.make.Goals as goal

pub returns-clause-callers : goal.returns-clause-callers
returns-clause-callers g c = (c.in-Ok.ensures.callers, dealt_callers _ _ _ (rw c.enter.ensures.entered at c.deal.ensures.dealt) ∙ c.in-Ok.ensures.callers)

pub returns-clause-seats : goal.returns-clause-seats
returns-clause-seats g c = dealt_seats _ _ _ _ (rw c.enter.ensures.entered at c.deal.ensures.dealt) c.deal.ensures.at

pub returns-clause-fronts : goal.returns-clause-fronts
returns-clause-fronts g c = dealt_fronts _ _ _ (rw c.enter.ensures.entered at c.deal.ensures.dealt)

pub returns-clause-fixed : goal.returns-clause-fixed
returns-clause-fixed g c = dealt_fixed _ _ _ (rw c.enter.ensures.entered at c.deal.ensures.dealt)
