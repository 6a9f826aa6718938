use Rattle.std.proofs.Common.{arith}
use Rattle.hall_replies.specs.Kept.{leaves_of}
use Rattle.hall_replies.proofs.Kept.{length-leaves}
use Rattle.hall_replies.proofs.Vouches.{point-within}
use Rattle.hall_replies.proofs.news.first_shown.Goals as goal

pub returns-clause-within : goal.returns-clause-within
returns-clause-within g c =
    let s = c.args.snap.now in
    let all = length-leaves s in
    let point = rw (c.deref.ensures.value, c.in_ok-ops.ensures) at c.vouch_point.ensures in
    let below = point-within (leaves_of s) c.args.have c.args.f c.vouch_point.result (omega (arith, all, c.requires.more)) point in
    omega (arith, all, below)
