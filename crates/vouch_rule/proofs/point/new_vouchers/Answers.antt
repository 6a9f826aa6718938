use Rattle.std.proofs.Common.{arith}
use Rattle.vouch_rule.proofs.Counts.{vouchers-more, vouchers-le}
use Rattle.vouch_rule.proofs.point.new_vouchers.Goals as goal

pub overflow_add-result : goal.overflow_add-result
overflow_add-result c =
    let more = vouchers-more c.args.from c.args.ops.now 0 c.requires.some in
    let most = vouchers-le c.args.from c.args.ops.now in
    let later = rw c.split_at.ensures.back at c.vouchers_until.ensures in
    rw c.is_last_vouch.ensures (omega (arith, more, most, later, c.requires.few))

pub returns : goal.returns
returns c =
    let more = vouchers-more c.args.from c.args.ops.now 0 c.requires.some in
    let later = rw c.split_at.ensures.back at c.vouchers_until.ensures in
    rw c.is_last_vouch.ensures (omega (arith, more, later))
