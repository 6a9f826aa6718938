use Rattle.client_core.proofs.Streams.{one-use}
use Rattle.client_core.proofs.laws.streams.Goals as goal

pub returns : goal.returns
returns c = one-use
