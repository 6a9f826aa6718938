use Rattle.std.proofs.Common.{arith}
use Rattle.vouch_rule.proofs.Points.{new_count-more, new_count-none, new_count-le, vouchers-before}
use Rattle.vouch_rule.proofs.point.vouchers_until.Goals as goal

pub overflow_add-found : goal.overflow_add-found
overflow_add-found c =
    let more = new_count-more c.args.from c.args.ops.now c.args.ops.now c.loop-place.place c.loop-place-test.true in
    let most = new_count-le c.args.from c.args.ops.now c.args.ops.now in
    rw (c.is_new_vouch.ensures, c.split_at.ensures.back) (omega (arith, more, most, c.loop-place.invariant, c.requires.few))

pub loop-place-preserved : goal.loop-place-preserved
loop-place-preserved c =
    let more = new_count-more c.args.from c.args.ops.now c.args.ops.now c.loop-place.place c.loop-place-test.true in
    rw (c.is_new_vouch.ensures, c.split_at.ensures.back) (omega (arith, more, c.loop-place.invariant))

pub returns : goal.returns
returns c =
    let none = new_count-none c.args.from c.args.ops.now c.args.ops.now c.loop-place.place c.loop-place-test.false in
    omega (arith, none, c.loop-place.invariant, vouchers-before c.args.from c.args.ops.now)
