use Rattle.wall_law.proofs.Positions.{comes-next, next-passes, no-refusal, passes}
use Rattle.wall_law.proofs.laws.positions.Goals as goal

pub returns-clause-exactly : goal.returns-clause-exactly
returns-clause-exactly c = λ before wall k leaf f. (passes before wall k leaf f, no-refusal before wall k leaf f)

pub returns-clause-lawful : goal.returns-clause-lawful
returns-clause-lawful c = comes-next

pub returns-clause-passes : goal.returns-clause-passes
returns-clause-passes c = next-passes
