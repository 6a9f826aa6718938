use Rattle.vouch_rule.proofs.Outsiders.{outsider}
use Rattle.vouch_rule.proofs.laws.outsiders.Goals as goal

pub returns : goal.returns
returns c = outsider
