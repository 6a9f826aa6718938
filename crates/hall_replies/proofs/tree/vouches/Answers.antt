use Rattle.std.proofs.Common.{◌∙◌, arith}
use Rattle.hall_replies.specs.Kept.{leaves_of}
use Rattle.hall_replies.proofs.Kept.{leaf-at, length-leaves}
use Rattle.hall_replies.proofs.Vouches.{vouches-all, vouches-step}
use Rattle.hall_replies.proofs.tree.vouches.Goals as goal

pub loop-k-preserved : goal.loop-k-preserved
loop-k-preserved g c =
    let s = c.args.snap.now in
    let at = leaf-at s c.loop-k.k c.item.result.now (rw c.history.ensures at c.item.ensures) in
    vouches-step (leaves_of s) c.args.from c.loop-k.k c.item.result.now.leaf c.loop-k.ops.items c.push.new.self.items
    (omega arith) at c.loop-k.invariant c.in_ok-push.ensures.items

pub returns : goal.returns
returns g c =
    let s = c.args.snap.now in
    c.loop-k.invariant ∙ vouches-all (leaves_of s) c.args.from c.loop-k.k (let all = length-leaves s in omega (arith, all, c.size-k-end.ensures))
