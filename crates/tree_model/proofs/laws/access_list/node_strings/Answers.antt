use Rattle.tree_model.proofs.NodeStrings.{node_text-same}
use Rattle.tree_model.proofs.laws.access_list.node_strings.Goals as goal

pub returns : goal.returns
returns c = record { one_to_one = node_text-same 32 }
