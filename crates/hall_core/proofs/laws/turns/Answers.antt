use Rattle.hall_core.proofs.CallLaws.{turns_grow}
use Rattle.hall_core.proofs.laws.turns.Goals as goal

pub returns : goal.returns
returns g c = turns_grow g.D.Digester.digest_of
