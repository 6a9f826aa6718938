use Rattle.script_read.specs.Elements.{every}
use Rattle.script_read.proofs.Lists.{every_more, every_refused, every_done}
use Rattle.script_read.proofs.elements.every.Goals as goal

pub loop-item-preserved : goal.loop-item-preserved
loop-item-preserved g c one holds =
    let items = c.args.items.now in
    let read = holds _ _ c.in-Ok.ensures in
    every_more one items (every one items) c.loop-item.item-index c.item-item.result tt
    c.loop-item-test.true c.item-item.is read (c.loop-item.invariant one holds)

pub returns-in-Err : goal.returns-in-Err
returns-in-Err g c one holds =
    let items = c.args.items.now in
    let read = holds _ _ c.in-Err.ensures in
    every_refused one items (every one items) c.loop-item.item-index c.item-item.result c.in-Err.refusal
    c.loop-item-test.true c.item-item.is read (c.loop-item.invariant one holds)

pub returns : goal.returns
returns g c one holds =
    let items = c.args.items.now in
    every_done one items (every one items) c.loop-item.item-index c.loop-item-test.false
    (c.loop-item.invariant one holds)
