use Rattle.std.proofs.Common.{◌≡◌, ◌+◌, ◌-◌, ◌<◌, ◌≤◌, ◌^◌, inr, sym, drop, arith}
use Rattle.std.proofs.lemmas.List.{length-drop}
use Rattle.std.proofs.lemmas.List.Elements.{All-drop}
use Rattle.vouch_rule.specs.declared.vouch.Vouch.{Vouch}
use Rattle.vouch_rule.proofs.Counts.{vouchers-le}
use Rattle.vouch_rule.proofs.Points.{step, none-here, none-past}
use Rattle.vouch_rule.proofs.point.vouch_point.Goals as goal

pub overflow_add-found : goal.overflow_add-found
overflow_add-found c =
    let at = c.loop-place.place - 1 in
    let found = step c.args.ops.now _ c.args.have c.loop-place.place c.in-Some.from c.loop-place.found c.new_vouchers-found.result c.loop-place-test.true
    c.loop-place.invariant.0 c.split_at.ensures.back c.in-Some.ensures.1 c.new_vouchers-found.ensures in
    let most = vouchers-le (c.args.have + at) (drop at c.args.ops.now) in
    omega (arith, found, most, c.requires.few, length-drop at c.args.ops.now)

pub returns-then-found-f : goal.returns-then-found-f
returns-then-found-f c =
    let here = c.in-Some.ensures.1 in
    let found = step c.args.ops.now _ c.args.have c.loop-place.place c.in-Some.from c.loop-place.found c.new_vouchers-found.result c.loop-place-test.true
    c.loop-place.invariant.0 c.split_at.ensures.back here c.new_vouchers-found.ensures in
    let at : c.in-Some.from - c.args.have ≡ c.loop-place.place - 1 = omega (arith, here) in
    record {
      found = inr (omega (arith, here, c.loop-place-test.true), rw (at, here, sym found) c.if-found-f.true);
      greatest = λ n vouched. omega (arith, here, c.loop-place.invariant.1 n vouched, c.loop-place-test.true);
    }

pub loop-place-preserved-else-found-f : goal.loop-place-preserved-else-found-f
loop-place-preserved-else-found-f c =
    let found = step c.args.ops.now _ c.args.have c.loop-place.place c.in-Some.from c.loop-place.found c.new_vouchers-found.result c.loop-place-test.true
    c.loop-place.invariant.0 c.split_at.ensures.back c.in-Some.ensures.1 c.new_vouchers-found.ensures in (
      found,
      none-here c.args.ops.now c.args.have c.args.f c.loop-place.place c.loop-place-test.true
          (omega (arith, found, c.if-found-f.false)) c.loop-place.invariant.1,
    )

pub loop-place-preserved : goal.loop-place-preserved
loop-place-preserved c =
    let at = c.loop-place.place - 1 in
    let place = c.loop-place.place in
    let ops = c.args.ops.now in
    let past : 2 ^ 64 ≤ c.args.have + at = omega (arith, c.in_default.ensures) in
    let none = none-past (c.args.have + at) (drop at ops) (λ k d lt. omega (arith, past, All-drop (λ (op : Vouch). op.size < 2 ^ 64) at ops c.sizes_fit.ensures k d lt)) in
    let before = none-past (c.args.have + place) (drop place ops)
    (λ k d lt. omega (arith, past, All-drop (λ (op : Vouch). op.size < 2 ^ 64) place ops c.sizes_fit.ensures k d lt)) in
    (omega (arith, none, before, c.loop-place.invariant.0), none-here ops c.args.have c.args.f place c.loop-place-test.true (omega (arith, none)) c.loop-place.invariant.1)
