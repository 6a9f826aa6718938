use Rattle.tree_model.proofs.Members.{contains-among}
use Rattle.tree_model.proofs.Parts.{around-same}
use Rattle.tree_model.proofs.laws.parts.around.Goals as goal

pub returns : goal.returns
returns c = λ es t h inside. around-same es t h (contains-among es t inside)
