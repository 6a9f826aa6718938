use Rattle.std.proofs.Common.{◌≤◌, ◌^◌, arith}
use Rattle.std.proofs.Math.Pow.{pow_mono}
use Rattle.key_graph.proofs.tree.KeyTree.plan.Goals as goal

pub returns-in-Ok-wraps_of-clause-slot : goal.returns-in-Ok-wraps_of-clause-slot
returns-in-Ok-wraps_of-clause-slot c =
    let h : 2 ^ c.self.inside.setting.depth ≤ 2 ^ 6 = pow_mono c.self.invariant.1 in
    omega (arith, c.in-Ok.ensures.within)
