use Rattle.std.proofs.Common.{true, false, not, sym, ap, ◌∙◌, arith}
use Rattle.check_rules.proofs.Present.{seen, shows-end, shows-more}
use Rattle.check_core.proofs.shown.shows_from.Goals as goal

pub returns-then-is_none : goal.returns-then-is_none
returns-then-is_none g c =
    let some = seen _ c.leaf_at.result _ _ c.leaf_at.ensures (c.is_none.ensures ∙ ap not c.if-is_none.true) in
    sym (c.loop-k.invariant
    ∙ shows-more c.args.tree.now.tree c.args.tree.now.size c.loop-k.k false (omega (arith, c.loop-k-test.true)) some)

pub loop-k-preserved : goal.loop-k-preserved
loop-k-preserved g c =
    let some = seen _ c.leaf_at.result _ _ c.leaf_at.ensures (c.is_none.ensures ∙ ap not c.if-is_none.false) in
    c.loop-k.invariant
    ∙ shows-more c.args.tree.now.tree c.args.tree.now.size c.loop-k.k true (omega (arith, c.loop-k-test.true)) some

pub returns : goal.returns
returns g c = sym (c.loop-k.invariant
    ∙ shows-end c.args.tree.now.tree c.args.tree.now.size c.loop-k.k (omega (arith, c.loop-k-test.false)))
