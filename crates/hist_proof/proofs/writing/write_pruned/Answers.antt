use Rattle.hist_proof.specs.View.{tree_view}
use Rattle.hist_proof.proofs.Spellings.{counts_spelled}
use Rattle.hist_proof.proofs.writing.write_pruned.Goals as goal

pub put_tree-requires : goal.put_tree-requires
put_tree-requires c = counts_spelled (tree_view c.args.p.now) c.requires
