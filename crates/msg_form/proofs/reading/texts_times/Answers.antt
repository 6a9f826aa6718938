use Rattle.std.proofs.Common.{Vec, Global}
use Rattle.std.proofs.lemmas.Result.{err_from_is_err_and}
use Rattle.fr_bytes.specs.Bytes.{Text}
use Rattle.fr_bytes.specs.Reading.{counted_at, times_at}
use Rattle.fr_bytes.proofs.Parts.{times-goes_on, times-ends, times-is_done}
use Rattle.msg_form.proofs.reading.texts_times.Goals as goal

pub returns-in_err-text : goal.returns-in_err-text
returns-in_err-text c =
    let p = err_from_is_err_and c.from_residual.result c.from_residual.ensures.1 in
    rw (p.1, p.2)
    (times-ends counted_at (λ (x : Text). x) (λ (xs : Vec Text Global). xs.items) c.in_err-text.field-0.0 c.loop.texts.items
    c.args.count c.loop.counter c.loop.cur c.counted_at.new.cur _ (times_at counted_at c.args.count c.args.cur.now)
    c.loop-test.true c.in_err-text.ensures c.loop.invariant)

pub loop-preserved : goal.loop-preserved
loop-preserved c =
    rw c.in_ok-push.ensures.items
    (times-goes_on counted_at c.loop.texts.items c.args.count c.loop.counter c.loop.cur c.in_ok-text.text c.counted_at.new.cur
    (times_at counted_at c.args.count c.args.cur.now) c.loop-test.true c.in_ok-text.ensures c.loop.invariant)

pub returns : goal.returns
returns c =
    times-is_done counted_at c.loop.texts.items c.args.count c.loop.counter c.loop.cur (times_at counted_at c.args.count c.args.cur.now)
    c.loop-test.false c.loop.invariant
