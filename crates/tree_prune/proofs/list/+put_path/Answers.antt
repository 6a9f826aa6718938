use Rattle.std.proofs.Common.{◌∙◌, ap}
use Rattle.dict_treap.specs.Treap.{part}
use Rattle.pruned_list.specs.Kept.{path}
use Rattle.tree_prune.proofs.Walks.{path-absent, path-at_left, path-at_right, walk, walk-none}
use Rattle.tree_prune.proofs.list.+put_path.Goals as goal

pub returns-in-None : goal.returns-in-None
returns-in-None g t c = walk-none _ _ (ap (λ x. path c.args.user (part x)) c.in-None.is ∙ path-absent c.args.user)

pub returns-then-user-entry-2 : goal.returns-then-user-entry-2
returns-then-user-entry-2 g t c =
    walk _ _ _ _ _ _ c.in_ok-push.ensures.items c.in_ok-put_path.ensures
    (ap (λ x. path c.args.user (part x)) c.in-Some.is
    ∙ path-at_left c.args.user c.entry-entry.result c.in-Some.node.now c.entry-entry.ensures (part c.left.result)
    c.left.ensures.value c.if-user-entry-2.true)

pub returns : goal.returns
returns g t c =
    walk _ _ _ _ _ _ c.in_ok-push.ensures.items c.in_ok-put_path-2.ensures
    (ap (λ x. path c.args.user (part x)) c.in-Some.is
    ∙ path-at_right c.args.user c.entry-entry.result c.in-Some.node.now c.entry-entry.ensures (part c.right.result)
    c.right.ensures.value c.if-user-entry.false c.if-user-entry-2.false)
