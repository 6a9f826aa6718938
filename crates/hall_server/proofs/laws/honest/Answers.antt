use Rattle.hall_server.proofs.Playing.{played_honest}
use Rattle.hall_server.proofs.laws.honest.Goals as goal

pub returns : goal.returns
returns c = played_honest
