use Rattle.std.proofs.Common.{◌∙◌, sym}
use Rattle.audit_run.specs.Fronts.{view_on}
use Rattle.audit_run.proofs.Comparing.{many-begin, many-on, many-over, many-ready, many-stop}
use Rattle.audit_run.proofs.Owned.{at-place}
use Rattle.audit_run.proofs.record.views_clash.Goals as goal

pub loop-leaf-init : goal.loop-leaf-init
loop-leaf-init g c h at =
    many-begin g.D.Digester.digest_of (view_on c.args.index.now.world.now c.args.wall h.leaves) c.args.leaves.now (c.requires.ready h at)

pub view_clash-requires-clause-long : goal.view_clash-requires-clause-long
view_clash-requires-clause-long g c h at =
    c.requires.long h at c.loop-leaf.leaf-index c.leaf-item.result
    (at-place c.args.leaves.now c.loop-leaf.leaf-index c.leaf-item.result c.loop-leaf-test.true c.leaf-item.is)

pub view_clash-requires-clause-ready : goal.view_clash-requires-clause-ready
view_clash-requires-clause-ready g c h at =
    many-ready g.D.Digester.digest_of (view_on c.args.index.now.world.now c.args.wall h.leaves) c.loop-leaf.leaf-index c.args.leaves.now
    c.leaf-item.result c.loop-leaf-test.true c.leaf-item.is (c.loop-leaf.invariant h at)

pub returns-then-is_some : goal.returns-then-is_some
returns-then-is_some g c h at =
    many-stop g.D.Digester.digest_of (view_on c.args.index.now.world.now c.args.wall h.leaves) c.loop-leaf.leaf-index c.args.leaves.now
    c.leaf-item.result c.in_ok-clash.clash c.loop-leaf-test.true c.leaf-item.is (c.loop-leaf.invariant h at)
    (c.in_ok-clash.ensures h at) (sym c.is_some.ensures ∙ c.if-is_some.true)

pub loop-leaf-preserved : goal.loop-leaf-preserved
loop-leaf-preserved g c h at =
    many-on g.D.Digester.digest_of (view_on c.args.index.now.world.now c.args.wall h.leaves) c.loop-leaf.leaf-index c.args.leaves.now
    c.leaf-item.result c.in_ok-clash.clash c.loop-leaf-test.true c.leaf-item.is (c.loop-leaf.invariant h at)
    (c.in_ok-clash.ensures h at) (sym c.is_some.ensures ∙ c.if-is_some.false)

pub returns : goal.returns
returns g c h at =
    many-over g.D.Digester.digest_of (view_on c.args.index.now.world.now c.args.wall h.leaves) c.loop-leaf.leaf-index c.args.leaves.now
    c.loop-leaf-test.false (c.loop-leaf.invariant h at)
