use Rattle.std.proofs.Common.{◌<◌, ◌^◌, arith}
use Rattle.std.proofs.lemmas.List.{take_all}
use Rattle.std.proofs.lemmas.List.Elements.{All-more}
use Rattle.vouch_rule.specs.declared.vouch.Vouch.{Vouch}
use Rattle.vouch_rule.proofs.point.sizes_fit.Goals as goal

pub loop-op-preserved : goal.loop-op-preserved
loop-op-preserved c =
    All-more (λ (op : Vouch). op.size < 2 ^ 64) c.args.ops.now c.loop-op.op-index _ c.loop-op-test.true c.loop-op.invariant c.size_fits.ensures

pub returns : goal.returns
returns c =
    let whole = take_all c.loop-op.op-index c.args.ops.now (omega arith) in
    rw whole at c.loop-op.invariant
