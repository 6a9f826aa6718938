use Rattle.pruned_list.proofs.Changes.{changed-prunes}
use Rattle.pruned_list.proofs.laws.operations.Goals as goal

pub returns : goal.returns
returns g c = changed-prunes g.D.Digester.digest_of
