use Rattle.std.proofs.Common.{ap, rules, ◌∙◌}
use Rattle.hist_proof.specs.Digested.{IsMarked}
use Rattle.hist_proof.specs.View.{marks_view, tree_view}
use Rattle.hist_proof.proofs.Views.{tree_view-node}
use Rattle.hist_proof.proofs.versions.+digest_in.Goals as goal

pub digest_in-requires : goal.digest_in-requires
digest_in-requires g t c κs within =
    let is = ap tree_view c.in-Node.is ∙ tree_view-node _ _ in
    let marked : IsMarked g.D.Digester.digest_of (marks_view c.halves.result.0.now) (tree_view c.deref.result.now) =
    rw c.deref.ensures (c.halves.ensures.left g.D.Digester.digest_of _ _ (rw is at c.requires.marked)) in search rules
