use Rattle.dict_treap.proofs.Versions.{two-users}
use Rattle.dict_treap.proofs.laws.others.Goals as goal

pub returns : goal.returns
returns c = two-users
