use Rattle.std.proofs.Common.{◌∙◌, subst}
use Rattle.std.specs.Prelude.{IfOk}
use Rattle.hist_proof.specs.Pruned.{Tree}
use Rattle.hist_proof.specs.Spelling.{Spells}
use Rattle.hist_proof.specs.View.{tree_view}
use Rattle.hall_replies.specs.Shown.{HasDigs}
use Rattle.hall_replies.proofs.Shows.{news-made, news-spelled}
use Rattle.hall_replies.proofs.tree.news_text.Goals as goal

pub write_pruned-requires : goal.write_pruned-requires
write_pruned-requires g c =
    let s = c.args.snap.now in
    let d = g.D.Digester.digest_of in
    let made = news-made d s c.requires.kept c.args.have c.args.from c.requires.within c.size.result c.history.result.now
    c.deref.result.now (tree_view c.in_ok-tree.tree) c.size.ensures c.history.ensures (c.deref.ensures.value ∙ c.in_ok-versions.ensures) c.in_ok-tree.ensures in
    rw made (news-spelled d s c.requires.kept c.args.have c.args.from c.requires.within (subst HasDigs made c.digests_fit.ensures))

pub returns : goal.returns
returns g c =
    let s = c.args.snap.now in
    let d = g.D.Digester.digest_of in
    let made = news-made d s c.requires.kept c.args.have c.args.from c.requires.within c.size.result c.history.result.now
    c.deref.result.now (tree_view c.in_ok-tree.tree) c.size.ensures c.history.ensures (c.deref.ensures.value ∙ c.in_ok-versions.ensures) c.in_ok-tree.ensures in
    subst (λ (p : Tree). IfOk c.write_pruned.result (Spells p)) made c.write_pruned.ensures
