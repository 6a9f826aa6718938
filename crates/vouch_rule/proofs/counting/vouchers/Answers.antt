use Rattle.std.proofs.Common.{arith}
use Rattle.vouch_rule.proofs.Counts.{vouchers-more, vouchers-le}
use Rattle.vouch_rule.proofs.counting.vouchers.Goals as goal

pub overflow_add-found : goal.overflow_add-found
overflow_add-found c =
    let more = vouchers-more c.args.from c.args.ops.now c.loop-place.place c.loop-place-test.true in
    let most = vouchers-le c.args.from c.args.ops.now in
    rw (c.is_last_vouch.ensures, c.split_at.ensures.back) (omega (arith, more, most, c.loop-place.invariant, c.requires.few))

pub loop-place-preserved : goal.loop-place-preserved
loop-place-preserved c =
    let more = vouchers-more c.args.from c.args.ops.now c.loop-place.place c.loop-place-test.true in
    rw (c.is_last_vouch.ensures, c.split_at.ensures.back) (omega (arith, more, c.loop-place.invariant))
