use Rattle.std.proofs.Common.{◌∙◌, ap}
use Rattle.dict_treap.specs.Treap.{part}
use Rattle.pruned_list.specs.Kept.{removal}
use Rattle.tree_prune.proofs.Walks.{removal-absent, removal-at, removal-at_left, removal-at_right, walk, walk-none}
use Rattle.tree_prune.proofs.list.+put_removal.Goals as goal

pub returns-in-None : goal.returns-in-None
returns-in-None g t c = walk-none _ _ (ap (λ x. removal c.args.user (part x)) c.in-None.is ∙ removal-absent c.args.user)

pub returns-then-user-entry : goal.returns-then-user-entry
returns-then-user-entry g t c =
    walk _ _ _ _ _ _ c.in_ok-push.ensures.items c.in_ok-put_joined.ensures
    (ap (λ x. removal c.args.user (part x)) c.in-Some.is
    ∙ removal-at c.args.user c.entry-entry.result c.in-Some.node.now c.entry-entry.ensures (part c.left.result)
    (part c.right.result) c.left.ensures.value c.right.ensures.value c.if-user-entry.true)

pub returns-then-user-entry-2 : goal.returns-then-user-entry-2
returns-then-user-entry-2 g t c =
    walk _ _ _ _ _ _ c.in_ok-push.ensures.items c.in_ok-put_removal.ensures
    (ap (λ x. removal c.args.user (part x)) c.in-Some.is
    ∙ removal-at_left c.args.user c.entry-entry.result c.in-Some.node.now c.entry-entry.ensures
    (part c.left-then-user-entry-2.result) c.left-then-user-entry-2.ensures.value c.if-user-entry-2.true)

pub returns : goal.returns
returns g t c =
    walk _ _ _ _ _ _ c.in_ok-push.ensures.items c.in_ok-put_removal-2.ensures
    (ap (λ x. removal c.args.user (part x)) c.in-Some.is
    ∙ removal-at_right c.args.user c.entry-entry.result c.in-Some.node.now c.entry-entry.ensures (part c.right-2.result)
    c.right-2.ensures.value c.if-user-entry.false c.if-user-entry-2.false)
