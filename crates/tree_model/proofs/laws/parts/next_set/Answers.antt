use Rattle.tree_model.proofs.Parts.{greater-with_next, smaller-with_next, top-with_next, with_next-absent}
use Rattle.tree_model.proofs.laws.parts.next_set.Goals as goal

pub returns : goal.returns
returns c = record {
  smaller = smaller-with_next;
  greater = greater-with_next;
  top = top-with_next;
  absent = with_next-absent;
}
