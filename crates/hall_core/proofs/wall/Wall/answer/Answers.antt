use Rattle.hall_core.proofs.Refusals.{gives-looked}
use Rattle.hall_core.proofs.wall.Wall.answer.Goals as goal

pub returns-in-Look-clause-gives : goal.returns-in-Look-clause-gives
returns-in-Look-clause-gives g c =
    let wall = c.args.self.now in
    rw (c.in-Look.is, c.size.ensures) (gives-looked g.D.Digester.digest_of wall.facts wall.leaves)
