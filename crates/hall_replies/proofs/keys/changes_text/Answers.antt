use Rattle.std.proofs.Common.{◌∙◌, ap, subst}
use Rattle.std.specs.Prelude.{IfOk}
use Rattle.hist_proof.specs.Pruned.{Tree}
use Rattle.hist_proof.specs.Spelling.{Spells}
use Rattle.hist_proof.specs.View.{tree_view}
use Rattle.tree_prune.specs.LeastHistory.{listed}
use Rattle.hall_replies.specs.Shown.{HasDigs}
use Rattle.hall_replies.proofs.Shows.{key-made, key-spelled}
use Rattle.hall_replies.proofs.keys.changes_text.Goals as goal

pub write_pruned-requires : goal.write_pruned-requires
write_pruned-requires g c =
    let s = c.args.snap.now in
    let d = g.D.Digester.digest_of in
    let made = key-made d s c.requires.kept c.args.size c.requires.some c.requires.within c.history.result.now c.deref.result.now
    (tree_view c.in_ok-tree.tree) c.history.ensures (ap (λ ps. listed ps c.args.size) c.deref.ensures.value ∙ c.in_ok-positions.ensures) c.in_ok-tree.ensures in
    rw made (key-spelled d s c.requires.kept c.args.size c.requires.some c.requires.within (subst HasDigs made c.digests_fit.ensures))

pub returns : goal.returns
returns g c =
    let s = c.args.snap.now in
    let d = g.D.Digester.digest_of in
    let made = key-made d s c.requires.kept c.args.size c.requires.some c.requires.within c.history.result.now c.deref.result.now
    (tree_view c.in_ok-tree.tree) c.history.ensures (ap (λ ps. listed ps c.args.size) c.deref.ensures.value ∙ c.in_ok-positions.ensures) c.in_ok-tree.ensures in
    subst (λ (p : Tree). IfOk c.write_pruned.result (Spells p)) made c.write_pruned.ensures
