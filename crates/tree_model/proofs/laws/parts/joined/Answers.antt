use Rattle.tree_model.proofs.Members.{contains-among}
use Rattle.tree_model.proofs.Parts.{greater-append_left, greater-append_right, smaller-append_left, smaller-append_right}
use Rattle.tree_model.proofs.Tops.{top-append}
use Rattle.tree_model.proofs.laws.parts.joined.Goals as goal

pub returns : goal.returns
returns c = record {
  smaller_first = λ xs ys s h inside. smaller-append_left xs ys s h (contains-among xs s inside);
  greater_first = λ xs ys s h inside. greater-append_left xs ys s h (contains-among xs s inside);
  smaller_second = λ xs ys t h inside. smaller-append_right xs ys t h (contains-among ys t inside);
  greater_second = λ xs ys t h inside. greater-append_right xs ys t h (contains-among ys t inside);
  top = top-append;
}
