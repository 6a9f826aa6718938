use Rattle.std.proofs.Common.{ap, arith, ◌∙◌}
use Rattle.hist_proof.specs.View.{tree_view}
use Rattle.hist_proof.proofs.Views.{tree_view-node}
use Rattle.hist_proof.proofs.Halving.{cut_in-node}
use Rattle.hist_proof.proofs.cuts.+cut_in.Goals as goal

pub returns-in-Node : goal.returns-in-Node
returns-in-Node t c =
    let is = ap tree_view c.in-Node.is ∙ tree_view-node _ _ in
    rw (is, cut_in-node c.args.level (tree_view c.in-Node.left.value) (tree_view c.in-Node.field-1.value) c.args.size c.args.v (omega arith) (omega arith), ← c.deref.ensures, ← c.half-middle.ensures)
    c.cut_in.ensures
