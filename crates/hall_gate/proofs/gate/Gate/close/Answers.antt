use Rattle.hall_gate.proofs.Gathering.{closed_fixed, closed_fronts, closed_own, closed_known}
use Rattle.hall_gate.proofs.gate.Gate.close.Goals as goal

pub returns-clause-fixed : goal.returns-clause-fixed
returns-clause-fixed g c = let t = g.T.Turned in closed_fixed t.valid t.fixed t.entries t.caller _ _ _ _ c.gather-place.ensures.gathered c.unlock.ensures

pub returns-clause-fronts : goal.returns-clause-fronts
returns-clause-fronts g c = let t = g.T.Turned in closed_fronts t.valid t.fixed t.entries t.caller _ _ _ _ c.gather-place.ensures.gathered c.unlock.ensures

pub returns-clause-own : goal.returns-clause-own
returns-clause-own g c = let t = g.T.Turned in closed_own t.valid t.fixed t.entries t.caller _ _ _ _ c.gather-place.ensures.gathered c.unlock.ensures

pub returns-clause-callers : goal.returns-clause-callers
returns-clause-callers g c = let t = g.T.Turned in let known = closed_known t.valid t.fixed t.entries t.caller _ _ _ _ c.gather-place.ensures.gathered c.unlock.ensures in rw c.into_table.ensures at known
