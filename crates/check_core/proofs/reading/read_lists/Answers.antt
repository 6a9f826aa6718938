use Rattle.std.proofs.lemmas.Result.{err_from_is_err_and}
use Rattle.check_core.proofs.ListReading.{reads-all, reads-ends, reads-on}
use Rattle.check_core.proofs.reading.read_lists.Goals as goal

pub returns-in_err-list : goal.returns-in_err-list
returns-in_err-list c =
    let p = err_from_is_err_and c.from_residual.result c.from_residual.ensures.1 in
    rw (p.1, p.2)
    (reads-ends c.args.texts.now c.loop-text.text-index c.text-item.result c.loop-text.lists.items
    c.in_err-list.field-0.0
    c.loop-text-test.true c.text-item.is c.loop-text.invariant (rw c.as_slice.ensures at c.in_err-list.ensures.exact))

pub loop-text-preserved : goal.loop-text-preserved
loop-text-preserved c =
    rw c.in_ok-push.ensures.items
    (reads-on c.args.texts.now c.loop-text.text-index c.text-item.result c.loop-text.lists.items c.in_ok-list.list
    c.loop-text-test.true c.text-item.is c.loop-text.invariant (rw c.as_slice.ensures at c.in_ok-list.ensures.exact))

pub returns : goal.returns
returns c = reads-all c.args.texts.now c.loop-text.text-index c.loop-text.lists.items c.loop-text-test.false
    c.loop-text.invariant
