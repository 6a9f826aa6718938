use Rattle.pruned_list.proofs.Prunings.{bytes-few, levels-few}
use Rattle.pruned_list.proofs.laws.sizes.Goals as goal

pub returns : goal.returns
returns g c = record { levels = levels-few g.D.Digester.digest_of; bytes = bytes-few g.D.Digester.digest_of }
