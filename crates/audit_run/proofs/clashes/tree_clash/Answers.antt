use Rattle.std.proofs.Common.{◌≡◌, ◌∙◌, ◌∷◌, [], ap, sym, subst, take, length, None, List}
use Rattle.fr_bytes.specs.Bytes.{Text}
use Rattle.hist_proof.specs.Pruned.{cut, digest_of}
use Rattle.hist_proof.specs.View.{tree_view}
use Rattle.tree_model.specs.History.{root}
use Rattle.world_audit.specs.Comparisons.{Comparison, texts_of, tree}
use Rattle.world_audit.specs.Ready.{AreReady}
use Rattle.audit_run.specs.Compared.{Compared}
use Rattle.audit_run.proofs.Comparing.{long-texts, no-tree, one-tree, pruned-compared, tree-compared, tree-fits}
use Rattle.audit_run.proofs.clashes.tree_clash.Goals as goal

pub returns-in_default : goal.returns-in_default
returns-in_default g c =
    no-tree tree_view g.D.Digester.digest_of (texts_of (take c.args.v c.args.line.now.leaves))
    (cut (tree_view c.args.proof.now) c.args.size c.args.v) c.in_ok-front.field-0 c.in_ok-front.ensures.value c.in_default.is

pub prunes-requires-clause-some : goal.prunes-requires-clause-some
prunes-requires-clause-some g c =
    let M = texts_of (take c.args.v c.args.line.now.leaves) in
    (tree-fits g.D.Digester.digest_of (tree_view c.in-Some.front) M c.args.v
    (subst (AreReady g.D.Digester.digest_of) (sym (one-tree tree_view M (cut (tree_view c.args.proof.now) c.args.size c.args.v)
    c.in_ok-front.field-0 c.in-Some.front c.in_ok-front.ensures.value c.in-Some.is)) c.requires.ready)
    (long-texts c.args.v c.args.line.now.leaves c.requires.within)).1

pub returns-then-prunes : goal.returns-then-prunes
returns-then-prunes g c =
    let M = texts_of (take c.args.v c.args.line.now.leaves) in
    subst (λ (cs : List Comparison). Compared g.D.Digester.digest_of cs None)
    (one-tree tree_view M (cut (tree_view c.args.proof.now) c.args.size c.args.v)
    c.in_ok-front.field-0 c.in-Some.front c.in_ok-front.ensures.value c.in-Some.is)
    (pruned-compared g.D.Digester.digest_of (tree_view c.in-Some.front) M (c.prunes.ensures c.if-prunes.true))

pub hist_clash-requires-clause-fitting : goal.hist_clash-requires-clause-fitting
hist_clash-requires-clause-fitting g c =
    let M = texts_of (take c.args.v c.args.line.now.leaves) in
    (tree-fits g.D.Digester.digest_of (tree_view c.in-Some.front) M c.args.v
    (subst (AreReady g.D.Digester.digest_of) (sym (one-tree tree_view M (cut (tree_view c.args.proof.now) c.args.size c.args.v)
    c.in_ok-front.field-0 c.in-Some.front c.in_ok-front.ensures.value c.in-Some.is)) c.requires.ready)
    (long-texts c.args.v c.args.line.now.leaves c.requires.within)).0

pub hist_clash-requires-clause-lengths : goal.hist_clash-requires-clause-lengths
hist_clash-requires-clause-lengths g c =
    ap length c.in_ok-texts.ensures ∙ long-texts c.args.v c.args.line.now.leaves c.requires.within

pub hist_clash-requires-clause-roots : goal.hist_clash-requires-clause-roots
hist_clash-requires-clause-roots g c =
    let M = texts_of (take c.args.v c.args.line.now.leaves) in
    subst (λ (xs : List Text). digest_of g.D.Digester.digest_of (tree_view c.in-Some.front) ≡ root g.D.Digester.digest_of xs (length xs))
    (sym c.in_ok-texts.ensures)
    (tree-fits g.D.Digester.digest_of (tree_view c.in-Some.front) M c.args.v
    (subst (AreReady g.D.Digester.digest_of) (sym (one-tree tree_view M (cut (tree_view c.args.proof.now) c.args.size c.args.v)
    c.in_ok-front.field-0 c.in-Some.front c.in_ok-front.ensures.value c.in-Some.is)) c.requires.ready)
    (long-texts c.args.v c.args.line.now.leaves c.requires.within)).2

pub returns : goal.returns
returns g c =
    let M = texts_of (take c.args.v c.args.line.now.leaves) in
    subst (λ (cs : List Comparison). Compared g.D.Digester.digest_of cs c.in_ok-clash.clash)
    (one-tree tree_view M (cut (tree_view c.args.proof.now) c.args.size c.args.v)
    c.in_ok-front.field-0 c.in-Some.front c.in_ok-front.ensures.value c.in-Some.is)
    (subst (λ (xs : List Text). Compared g.D.Digester.digest_of (tree (tree_view c.in-Some.front) xs ∷ []) c.in_ok-clash.clash) c.in_ok-texts.ensures
    (tree-compared g.D.Digester.digest_of (tree_view c.in-Some.front) c.in_ok-texts.texts c.in_ok-clash.clash
    c.in_ok-clash.ensures.value c.in_ok-clash.ensures.none.0))
