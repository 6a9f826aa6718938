use Rattle.std.proofs.Common.{ap, rules, ◌∙◌}
use Rattle.hist_proof.specs.Digested.{IsMarked}
use Rattle.hist_proof.specs.View.{marks_view, tree_view}
use Rattle.hist_proof.proofs.Views.{tree_view-node}
use Rattle.hist_proof.proofs.versions.+digest_short.Goals as goal

pub digest_short-requires : goal.digest_short-requires
digest_short-requires g t c κs within =
    let is = ap tree_view c.in-Node.is ∙ tree_view-node _ _ in
    let marked : IsMarked g.D.Digester.digest_of (marks_view c.halves.result.0.now) (tree_view c.deref.result.now) =
    rw c.deref.ensures (c.halves.ensures.left g.D.Digester.digest_of _ _ (rw is at c.requires.marked)) in search rules

pub digest_short-right-requires : goal.digest_short-right-requires
digest_short-right-requires g t c κs within =
    let is = ap tree_view c.in-Node.is ∙ tree_view-node _ _ in
    let marked : IsMarked g.D.Digester.digest_of (marks_view c.halves.result.1.now) (tree_view c.deref-in-Node.result.now) =
    rw c.deref-in-Node.ensures (c.halves.ensures.right g.D.Digester.digest_of _ _ (rw is at c.requires.marked)) in search rules

pub digest_with-requires-in-Node : goal.digest_with-requires-in-Node
digest_with-requires-in-Node g t c =
    let is = ap tree_view c.in-Node.is ∙ tree_view-node _ _ in
    rw c.deref-in-Node-2.ensures (c.halves.ensures.left g.D.Digester.digest_of _ _ (rw is at c.requires.marked))
