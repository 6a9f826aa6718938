use Rattle.world_audit.proofs.Truths.{story-front, truth-agrees}
use Rattle.world_audit.proofs.laws.truths.Goals as goal

pub returns-clause-front : goal.returns-clause-front
returns-clause-front c = λ d w wall H kept truth. story-front d w kept wall H truth

pub returns-clause-agree : goal.returns-clause-agree
returns-clause-agree c = λ d w wall H kept truth. truth-agrees d w kept wall H truth
