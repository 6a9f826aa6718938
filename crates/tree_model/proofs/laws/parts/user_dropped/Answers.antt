use Rattle.tree_model.proofs.Members.{contains-among}
use Rattle.tree_model.proofs.Parts.{greater-without, smaller-without, top-without, without-around}
use Rattle.tree_model.proofs.laws.parts.user_dropped.Goals as goal

pub returns : goal.returns
returns c = record {
  smaller = smaller-without;
  greater = greater-without;
  top = top-without;
  around = λ es t h inside. without-around es t h (contains-among es t inside);
}
