use Rattle.check_rules.proofs.Acceptances.{accepted, silent}
use Rattle.check_rules.proofs.laws.acceptances.Goals as goal

pub returns : goal.returns
returns c = record { accepted = accepted; silent = silent }
