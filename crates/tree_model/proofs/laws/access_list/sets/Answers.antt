use Rattle.tree_model.proofs.Members.{rising-same, set_digest-same}
use Rattle.tree_model.proofs.laws.access_list.sets.Goals as goal

pub returns : goal.returns
returns g c = record { same = rising-same; digest = set_digest-same g.D.Digester.digest_of }
