use Rattle.std.proofs.Common.{ap, ◌∙◌}
use Rattle.hist_proof.specs.View.{marks_view}
use Rattle.hist_proof.proofs.Views.{marks_view-absent, marks_view-leaf, marks_view-node, marks_view-single}
use Rattle.hist_proof.proofs.Marking.{below-node, none_kept, not_node-leaf, not_node-single}
use Rattle.hist_proof.proofs.marks.Marks.halves.Goals as goal

pub returns-in-Node-clause-left : goal.returns-in-Node-clause-left
returns-in-Node-clause-left c d l r h =
    let is = ap marks_view c.in-Node.is ∙ marks_view-node _ _ _ in
    rw c.deref.ensures (below-node d _ _ _ l r (rw is at h)).0

pub returns-in-Node-clause-right : goal.returns-in-Node-clause-right
returns-in-Node-clause-right c d l r h =
    let is = ap marks_view c.in-Node.is ∙ marks_view-node _ _ _ in
    rw c.deref-in-Node.ensures (below-node d _ _ _ l r (rw is at h)).1

pub returns-in-Absent-clause-left : goal.returns-in-Absent-clause-left
returns-in-Absent-clause-left c d l r h = rw (ap marks_view c.in-Absent.is ∙ marks_view-absent) (none_kept d l)

pub returns-in-Absent-clause-right : goal.returns-in-Absent-clause-right
returns-in-Absent-clause-right c d l r h = rw (ap marks_view c.in-Absent.is ∙ marks_view-absent) (none_kept d r)

pub returns-in-Leaf-clause-left : goal.returns-in-Leaf-clause-left
returns-in-Leaf-clause-left c d l r h =
    let is = ap marks_view c.in-Leaf.is ∙ marks_view-leaf _ in absurd (not_node-leaf d _ l r (rw is at h))

pub returns-in-Leaf-clause-right : goal.returns-in-Leaf-clause-right
returns-in-Leaf-clause-right c d l r h =
    let is = ap marks_view c.in-Leaf.is ∙ marks_view-leaf _ in absurd (not_node-leaf d _ l r (rw is at h))

pub returns-in-Single-clause-left : goal.returns-in-Single-clause-left
returns-in-Single-clause-left c d l r h =
    let is = ap marks_view c.in-Single.is ∙ marks_view-single _ _ in absurd (not_node-single d _ _ l r (rw is at h))

pub returns-in-Single-clause-right : goal.returns-in-Single-clause-right
returns-in-Single-clause-right c d l r h =
    let is = ap marks_view c.in-Single.is ∙ marks_view-single _ _ in absurd (not_node-single d _ _ l r (rw is at h))
