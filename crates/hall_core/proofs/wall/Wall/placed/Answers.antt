use Rattle.std.proofs.Common.{sym, subst, ℕ}
use Rattle.hall_core.specs.declared.ask.Ask.TheVariants.{Append}
use Rattle.hall_core.specs.declared.ask.Answer.TheVariants.{Placed}
use Rattle.hall_core.specs.PlainWall.{Gives}
use Rattle.hall_core.proofs.Refusals.{gives-placed}
use Rattle.hall_core.proofs.wall.Wall.placed.Goals as goal

pub returns-in-Ok-clause-gives : goal.returns-in-Ok-clause-gives
returns-in-Ok-clause-gives g c =
    let wall = c.args.self.now in
    let op = c.args.op.now in
    subst (λ (k : ℕ). Gives g.D.Digester.digest_of wall.facts wall.leaves (Append op) (Placed k))
    (sym c.size-position.ensures)
    (gives-placed g.D.Digester.digest_of wall.facts wall.leaves op c.requires.free)
