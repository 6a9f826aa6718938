use Rattle.std.proofs.Common.{◌∙◌, ◌∷◌, ap, sym}
use Rattle.dict_treap.specs.Treap.{part}
use Rattle.pruned_list.specs.PrunedList.{absent}
use Rattle.pruned_list.specs.Kept.{join_users}
use Rattle.tree_prune.proofs.Walks.{join-at_greater, join-at_smaller, join_users-absent, join_users-absent_right, walk-none, walk-two}
use Rattle.tree_prune.proofs.list.+put_joined.Goals as goal

pub returns-in_default : goal.returns-in_default
returns-in_default g t c =
    walk-none _ _ (ap (λ x. join_users (part c.args.smaller) (part x)) c.in_default.is-1 ∙ join_users-absent_right (part c.args.smaller))

pub returns-then-above : goal.returns-then-above
returns-then-above g t c =
    walk-two _ _ _ _ _ _ _ _ c.in_ok-push.ensures.items c.in_ok-push-2.ensures.items c.in_ok-put_joined.ensures
    (ap (λ x. join_users (part c.args.smaller) (part x)) c.in-Some-Some.is-1
    ∙ ap (λ x. join_users (part x) c.in-Some-Some.b.now) c.in-Some-Some.is-0
    ∙ join-at_greater c.in-Some-Some.a.now c.in-Some-Some.b.now c.entry-upper.result c.entry-other.result c.entry-upper.ensures
    c.entry-other.ensures (part c.left.result) c.left.ensures.value (sym c.above.ensures ∙ c.if-above.true)
    ∙ ap (λ x. c.entry-upper.result.user ∷ (c.entry-other.result.user ∷ join_users (part x) (part c.left.result))) (sym c.in-Some-Some.is-0))

pub returns : goal.returns
returns g t c =
    walk-two _ _ _ _ _ _ _ _ c.in_ok-push.ensures.items c.in_ok-push-2.ensures.items c.in_ok-put_joined-2.ensures
    (ap (λ x. join_users (part c.args.smaller) (part x)) c.in-Some-Some.is-1
    ∙ ap (λ x. join_users (part x) c.in-Some-Some.b.now) c.in-Some-Some.is-0
    ∙ join-at_smaller c.in-Some-Some.a.now c.in-Some-Some.b.now c.entry-upper.result c.entry-other.result c.entry-upper.ensures
    c.entry-other.ensures (part c.right.result) c.right.ensures.value (sym c.above.ensures ∙ c.if-above.false)
    ∙ ap (λ x. c.entry-upper.result.user ∷ (c.entry-other.result.user ∷ join_users (part c.right.result) (part x))) (sym c.in-Some-Some.is-1))

pub returns-in_default-2 : goal.returns-in_default-2
returns-in_default-2 g t c =
    walk-none _ _ (ap (λ x. join_users (part x) (part c.args.greater)) c.in_default.is-0 ∙ join_users-absent (part c.args.greater))
