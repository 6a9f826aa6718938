use Rattle.std.proofs.Common.{ap, ◌∙◌}
use Rattle.hist_proof.specs.View.{marks_view}
use Rattle.hist_proof.proofs.Views.{marks_view-absent, marks_view-leaf, marks_view-node, marks_view-single}
use Rattle.hist_proof.proofs.Marking.{below-single, none_kept, not_single-leaf, not_single-node}
use Rattle.hist_proof.proofs.marks.Marks.left.Goals as goal

pub returns-in-Single : goal.returns-in-Single
returns-in-Single c d l h =
    let is = ap marks_view c.in-Single.is ∙ marks_view-single _ _ in
    rw c.deref.ensures (below-single d _ _ l (rw is at h))

pub returns-in-Absent : goal.returns-in-Absent
returns-in-Absent c d l h = rw (ap marks_view c.in-Absent.is ∙ marks_view-absent) (none_kept d l)

pub returns-in-Leaf : goal.returns-in-Leaf
returns-in-Leaf c d l h =
    let is = ap marks_view c.in-Leaf.is ∙ marks_view-leaf _ in absurd (not_single-leaf d _ l (rw is at h))

pub returns-in-Node : goal.returns-in-Node
returns-in-Node c d l h =
    let is = ap marks_view c.in-Node.is ∙ marks_view-node _ _ _ in absurd (not_single-node d _ _ _ l (rw is at h))
