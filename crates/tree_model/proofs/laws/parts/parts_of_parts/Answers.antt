use Rattle.tree_model.proofs.Filters.{greater-greater, smaller-greater, smaller-greater_none, smaller-smaller}
use Rattle.tree_model.proofs.laws.parts.parts_of_parts.Goals as goal

pub returns : goal.returns
returns c = record {
  smaller = smaller-smaller;
  greater = greater-greater;
  between = smaller-greater;
  nobody = smaller-greater_none;
}
