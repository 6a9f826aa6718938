use Rattle.std.proofs.Common.{ap, ◌∙◌}
use Rattle.hist_proof.specs.View.{marks_view, tree_view}
use Rattle.hist_proof.proofs.Views.{marks_view-leaf, marks_view-node, marks_view-single}
use Rattle.hist_proof.proofs.Marking.{marked-leaf, marked-node, marked-single}
use Rattle.hist_proof.proofs.marks.digest_with.Goals as goal

pub returns-in-Leaf : goal.returns-in-Leaf
returns-in-Leaf g c =
    let is = ap marks_view c.in-Leaf.is ∙ marks_view-leaf _ in
    marked-leaf g.D.Digester.digest_of _ (tree_view c.args.p.now) (rw is at c.requires)

pub returns-in-Node : goal.returns-in-Node
returns-in-Node g c =
    let is = ap marks_view c.in-Node.is ∙ marks_view-node _ _ _ in
    marked-node g.D.Digester.digest_of _ _ _ (tree_view c.args.p.now) (rw is at c.requires)

pub returns-in-Single : goal.returns-in-Single
returns-in-Single g c =
    let is = ap marks_view c.in-Single.is ∙ marks_view-single _ _ in
    marked-single g.D.Digester.digest_of _ _ (tree_view c.args.p.now) (rw is at c.requires)
