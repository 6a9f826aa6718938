use Rattle.std.proofs.Common.{◌≡◌, ◌*◌, ◌%◌, ◌^◌, ◌≤◌, arith}
use Rattle.std.proofs.Math.Pow.{pow_mono}
use Rattle.std.proofs.Math.Nat.{mod-eq_of_lt}
use Rattle.key_graph.proofs.history.slots.Goals as goal

pub returns-clause-small : goal.returns-clause-small
returns-clause-small c =
    let h : 2 ^ c.args.depth ≤ 2 ^ 6 = pow_mono c.requires in
    let e : 1 * 2 ^ c.args.depth % 256 ≡ 1 * 2 ^ c.args.depth = mod-eq_of_lt (omega arith) in
    rw e (omega arith)
