use Rattle.std.proofs.Common.{◌≡◌, [], Ok, Err}
use Rattle.serde_json.specs.View.{view, items_view}
use Rattle.script_read.specs.Refusal.{Gives}
use Rattle.script_read.specs.Elements.{each}
use Rattle.script_read.proofs.Lists.{each_more, each_refused, each_done}
use Rattle.script_read.proofs.elements.elements.Goals as goal

pub loop-value-preserved : goal.loop-value-preserved
loop-value-preserved g c one holds =
    let list = c.args.list.now in
    let whole = each one [] (items_view list) in
    let read : one c.loop-value.done.items (view c.value-item.result) ≡ Ok c.in-Ok.element =
    rw (← c.as_slice.ensures.value) (holds _ _ _ c.in-Ok.ensures) in
    rw c.in_ok-push-in-Ok.ensures.items
    (each_more one list whole c.loop-value.done.items c.loop-value.value-index c.value-item.result c.in-Ok.element
    c.loop-value-test.true c.value-item.is read (c.loop-value.invariant one holds))

pub returns-in-Err : goal.returns-in-Err
returns-in-Err g c one holds =
    let list = c.args.list.now in
    let whole = each one [] (items_view list) in
    let see : g.row.T.Denot → g.row.T.Denot = λ x. x in
    let read : Gives see (Err c.in-Err.refusal) (one c.loop-value.done.items (view c.value-item.result)) =
    rw (← c.as_slice.ensures.value) (holds _ _ _ c.in-Err.ensures) in
    each_refused one list whole c.loop-value.done.items c.loop-value.value-index c.value-item.result c.in-Err.refusal
    c.loop-value-test.true c.value-item.is read (c.loop-value.invariant one holds)

pub returns : goal.returns
returns g c one holds =
    let list = c.args.list.now in
    let whole = each one [] (items_view list) in
    each_done one list whole c.loop-value.done.items c.loop-value.value-index c.loop-value-test.false
    (c.loop-value.invariant one holds)
