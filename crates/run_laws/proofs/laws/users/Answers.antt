use Rattle.run_laws.proofs.Users.{untampered-well}
use Rattle.run_laws.proofs.laws.users.Goals as goal

pub returns : goal.returns
returns c = untampered-well
