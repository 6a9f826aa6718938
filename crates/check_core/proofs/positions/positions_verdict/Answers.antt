use Rattle.std.proofs.Common.{sym, ap, ◌∙◌, map, arith}
use Rattle.dict_proof.specs.View.{list_view}
use Rattle.check_core.specs.Finding.{told_view}
use Rattle.check_core.proofs.PositionRows.{next-list, no-next, walk-ends, walk-first, walk-on, walk-short, walk-stops}
use Rattle.check_core.proofs.positions.positions_verdict.Goals as goal

pub loop-i-init : goal.loop-i-init
loop-i-init g c = walk-first g.D.Digester.digest_of c.args.known.now c.args.tree.now.tree c.args.tree.now.size
    (told_view c.args.first) c.args.from c.args.leaves.now (map list_view c.args.lists.now)

pub returns-then-i-lists : goal.returns-then-i-lists
returns-then-i-lists g c = sym
    (walk-short g.D.Digester.digest_of c.args.known.now c.args.tree.now.tree c.args.tree.now.size
    (told_view c.args.first) c.args.from c.args.leaves.now (map list_view c.args.lists.now)
    (told_view c.loop-i.before) c.loop-i.i c.index-leaves-i.result c.loop-i.invariant c.loop-i-test.true
    c.index-leaves-i.is
    (no-next c.args.lists.now c.loop-i.i (omega arith)))

pub returns-then-is_some : goal.returns-then-is_some
returns-then-is_some g c = walk-stops g.D.Digester.digest_of c.args.known.now c.args.tree.now.tree
    c.args.tree.now.size (told_view c.args.first) c.args.from c.args.leaves.now (map list_view c.args.lists.now)
    (told_view c.loop-i.before) c.loop-i.i c.index-leaves-i.result
    (list_view c.index-lists-i.result) c.in_ok-verdict.verdict
    c.loop-i.invariant c.loop-i-test.true c.index-leaves-i.is
    (next-list c.args.lists.now c.loop-i.i c.index-lists-i.result (omega arith) c.index-lists-i.is)
    c.in_ok-verdict.ensures (sym c.is_some.ensures ∙ c.if-is_some.true)

pub loop-i-preserved : goal.loop-i-preserved
loop-i-preserved g c = walk-on g.D.Digester.digest_of c.args.known.now c.args.tree.now.tree c.args.tree.now.size
    (told_view c.args.first) c.args.from c.args.leaves.now (map list_view c.args.lists.now)
    (told_view c.loop-i.before) (told_view c.told_by-before.result) c.loop-i.i c.index-leaves-i.result
    (list_view c.index-lists-i.result)
    c.in_ok-verdict.verdict c.loop-i.invariant c.loop-i-test.true c.index-leaves-i.is
    (next-list c.args.lists.now c.loop-i.i c.index-lists-i.result (omega arith) c.index-lists-i.is)
    c.in_ok-verdict.ensures (sym c.is_some.ensures ∙ c.if-is_some.false) c.told_by-before.ensures

pub returns : goal.returns
returns g c = sym (walk-ends g.D.Digester.digest_of c.args.known.now c.args.tree.now.tree c.args.tree.now.size
    (told_view c.args.first) c.args.from c.args.leaves.now (map list_view c.args.lists.now)
    (told_view c.loop-i.before) c.loop-i.i c.loop-i.invariant c.loop-i-test.false)
