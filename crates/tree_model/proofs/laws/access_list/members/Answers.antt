use Rattle.tree_model.proofs.Members.{entry_of-exactly, rising-looked_up}
use Rattle.tree_model.proofs.laws.access_list.members.Goals as goal

pub returns : goal.returns
returns c = record { exactly = entry_of-exactly; same = rising-looked_up }
