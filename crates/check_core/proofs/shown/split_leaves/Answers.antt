use Rattle.std.proofs.Common.{ℕ, ◌-◌, sym, ap, ◌∙◌, arith, length, take, drop}
use Rattle.check_rules.proofs.Present.{count-in, few-behind, parted}
use Rattle.check_core.proofs.shown.split_leaves.Goals as goal

pub overflow_sub-at : goal.overflow_sub-at
overflow_sub-at g c =
    let most = count-in c.args.tree.now.tree c.args.tree.now.size c.args.from c.shown_count-count.result
    c.args.leaves.now.items
    c.requires.fitting c.requires.within c.requires.read c.shown_count-count.ensures in
    omega (arith, most, c.args.leaves.now.ok.0)

pub returns-clause-before : goal.returns-clause-before
returns-clause-before g c =
    c.in_ok-behind.ensures.items
    ∙ ap (λ (n : ℕ). take (n - c.shown_count-count.result) c.args.leaves.now.items) (c.len.ensures
    ∙ c.args.leaves.now.ok.0)
    ∙ (parted c.args.tree.now.tree c.args.tree.now.size c.args.from c.shown_count-count.result c.args.leaves.now.items
    c.requires.fitting c.requires.within c.requires.read c.shown_count-count.ensures).0

pub returns-clause-behind : goal.returns-clause-behind
returns-clause-behind g c =
    c.in_ok-behind.ensures.tail
    ∙ ap (λ (n : ℕ). drop (n - c.shown_count-count.result) c.args.leaves.now.items) (c.len.ensures
    ∙ c.args.leaves.now.ok.0)
    ∙ (parted c.args.tree.now.tree c.args.tree.now.size c.args.from c.shown_count-count.result c.args.leaves.now.items
    c.requires.fitting c.requires.within c.requires.read c.shown_count-count.ensures).1

pub returns-clause-few : goal.returns-clause-few
returns-clause-few g c =
    few-behind c.args.tree.now.tree c.args.tree.now.size c.args.from c.in_ok-behind.behind.items c.requires.within
    (c.in_ok-behind.ensures.tail
    ∙ ap (λ (n : ℕ). drop (n - c.shown_count-count.result) c.args.leaves.now.items) (c.len.ensures
    ∙ c.args.leaves.now.ok.0)
    ∙ (parted c.args.tree.now.tree c.args.tree.now.size c.args.from c.shown_count-count.result c.args.leaves.now.items
    c.requires.fitting c.requires.within c.requires.read c.shown_count-count.ensures).1)
