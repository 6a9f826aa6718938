use Rattle.std.proofs.Common.{sym, subst}
use Rattle.hall_core.specs.PlainWall.{IsAsk}
use Rattle.hall_core.proofs.Playing.{kept-more}
use Rattle.hall_core.proofs.hall.Hall.step.Goals as goal

pub invariant_of-self : goal.invariant_of-self
invariant_of-self g c =
    let answered = c.answer-answer.ensures in
    let parts = c.into_parts-caller.ensures in
    rw (answered.facts, c.add.ensures)
    (kept-more g.D.Digester.digest_of c.self.inside.wall.facts c.self.inside.wall.leaves c.answer-answer.new.self.leaves
    c.self.inside.entries _ c.self.invariant
    (record { asked = subst IsAsk (sym parts.ask) parts.spelled; gives = answered.gives }) answered.leaves
    c.keeps.ensures.spelled)

pub returns-clause-kept : goal.returns-clause-kept
returns-clause-kept g c = invariant_of-self g c
