use Rattle.std.proofs.Common.{◌≡◌, ◌-◌, ◌+◌, length, arith, sym, ap, ◌∙◌}
use Rattle.check_rules.specs.Shown.{leaves_among}
use Rattle.check_rules.proofs.Present.{count-first, count-more, count-most, seen}
use Rattle.check_core.proofs.shown.shown_count.Goals as goal

pub loop-k-init : goal.loop-k-init
loop-k-init g c = count-first c.args.tree.now.tree c.args.tree.now.size c.args.from

pub overflow_add-count : goal.overflow_add-count
overflow_add-count g c =
    let some = seen _ c.leaf_at.result _ _ c.leaf_at.ensures (sym c.is_some.ensures) in
    let more = count-more c.args.tree.now.tree c.args.tree.now.size c.args.from c.loop-k.k c.is_some.result
    c.requires.holds c.loop-k.auto.k some in
    let most = count-most c.args.tree.now.tree c.args.tree.now.size c.args.from (c.loop-k.k + 1 - c.args.from) in
    omega (arith, more, most, c.loop-k.invariant)

pub loop-k-preserved : goal.loop-k-preserved
loop-k-preserved g c =
    let some = seen _ c.leaf_at.result _ _ c.leaf_at.ensures (sym c.is_some.ensures) in
    let more = count-more c.args.tree.now.tree c.args.tree.now.size c.args.from c.loop-k.k c.is_some.result
    c.requires.holds c.loop-k.auto.k some in
    omega (arith, more, c.loop-k.invariant)
