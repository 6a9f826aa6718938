use Rattle.tree_model.proofs.Parts.{greater-with_entry, greater-with_entry_same, smaller-with_entry, smaller-with_entry_same, top-with_entry}
use Rattle.tree_model.proofs.laws.parts.entry_added.Goals as goal

pub returns : goal.returns
returns c = record {
  smaller = smaller-with_entry;
  smaller_same = smaller-with_entry_same;
  greater = greater-with_entry;
  greater_same = greater-with_entry_same;
  top = top-with_entry;
}
