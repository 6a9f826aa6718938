use Rattle.std.proofs.Common.{◌∙◌, sym, arith, map, slice_index_or}
use Rattle.std.specs.Prelude.{reverse}
use Rattle.audit_run.proofs.Ordering.{done-found, done-not-found, none-same, order-at, read-at, same-more}
use Rattle.audit_run.proofs.order.is_done.Goals as goal

pub loop-i-init : goal.loop-i-init
loop-i-init c = none-same (map (λ r. r.now) c.args.index.now.records.items) c.args.order.now c.args.r.now

pub index-requires : goal.index-requires
index-requires c =
    let less = order-at (λ r. r.now) c.args.index.now.records.items c.args.order.now (reverse c.requires.0) c.loop-i.i-index c.requires.1 c.loop-i-test.true 0 in
    let ok = c.args.index.now.records.ok.0 in omega arith

pub returns-then-is_same_record : goal.returns-then-is_same_record
returns-then-is_same_record c done picked =
    let it = read-at (λ r. r.now) c.args.index.now.records.items c.args.order.now (reverse done) c.loop-i.i-index 0 c.index.result.now picked c.loop-i-test.true c.index.ensures in
    done-found (map (λ r. r.now) c.args.index.now.records.items) c.args.order.now done c.args.r.now c.loop-i.i-index
    (slice_index_or c.args.order.now c.loop-i.i-index 0) c.index.result.now.now picked it.0 it.1
    (sym c.is_same_record.ensures ∙ c.if-is_same_record.true)

pub loop-i-preserved : goal.loop-i-preserved
loop-i-preserved c =
    let it = read-at (λ r. r.now) c.args.index.now.records.items c.args.order.now (reverse c.requires.0) c.loop-i.i-index 0 c.index.result.now c.requires.1 c.loop-i-test.true c.index.ensures in
    same-more (map (λ r. r.now) c.args.index.now.records.items) c.args.order.now c.args.r.now c.loop-i.i-index
    (slice_index_or c.args.order.now c.loop-i.i-index 0) c.index.result.now.now it.0 it.1
    (sym c.is_same_record.ensures ∙ c.if-is_same_record.false) c.loop-i.invariant

pub returns : goal.returns
returns c done picked =
    done-not-found (map (λ r. r.now) c.args.index.now.records.items) c.args.order.now done c.args.r.now c.loop-i.i-index picked
    c.loop-i-test.false c.loop-i.invariant
