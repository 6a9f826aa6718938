use Rattle.world_audit.proofs.Audits.{all-agree, sound}
use Rattle.world_audit.proofs.laws.audits.Goals as goal

pub returns-clause-sound : goal.returns-clause-sound
returns-clause-sound c = sound

pub returns-clause-agree : goal.returns-clause-agree
returns-clause-agree c = all-agree
