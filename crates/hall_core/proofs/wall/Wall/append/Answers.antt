use Rattle.std.proofs.Common.{◌∙◌, sym}
use Rattle.hall_core.proofs.Refusals.{gives-refused}
use Rattle.hall_core.proofs.wall.Wall.append.Goals as goal

pub returns-in-Ok-Some-clause-gives : goal.returns-in-Ok-Some-clause-gives
returns-in-Ok-Some-clause-gives g c =
    gives-refused g.D.Digester.digest_of c.args.self.now.facts c.args.self.now.leaves c.args.op.now c.in-Ok-Some.cause
    (sym c.in-Ok-Some.field-0-is ∙ c.in-Ok-Some.ensures)
