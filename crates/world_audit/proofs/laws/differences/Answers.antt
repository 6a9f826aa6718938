use Rattle.world_audit.proofs.Firsts.{difference-collides, first-differs, none-differs}
use Rattle.world_audit.proofs.Readiness.{all-ready}
use Rattle.world_audit.proofs.laws.differences.Goals as goal

pub returns-clause-ready : goal.returns-clause-ready
returns-clause-ready c = all-ready

pub returns-clause-none : goal.returns-clause-none
returns-clause-none c = none-differs

pub returns-clause-first : goal.returns-clause-first
returns-clause-first c = first-differs

pub returns-clause-collides : goal.returns-clause-collides
returns-clause-collides c = difference-collides
