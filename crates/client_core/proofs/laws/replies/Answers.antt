use Rattle.client_core.proofs.Walls.{heard-takes, rejected-takes}
use Rattle.client_core.proofs.laws.replies.Goals as goal

pub returns : goal.returns
returns c = record { heard = heard-takes; rejected = rejected-takes }
