use Rattle.audit_run.proofs.Owned.{among, one-more, none-before, none-at-all, not-true-and-false}
use Rattle.audit_run.proofs.unsigned.is_among.Goals as goal

pub loop-one-init : goal.loop-one-init
loop-one-init c = none-before c.args.signed.now c.args.op.now

pub returns-then-is_same_op-clause-one : goal.returns-then-is_same_op-clause-one
returns-then-is_same_op-clause-one c =
    λ yes. among c.args.signed.now c.args.op.now c.loop-one.one-index c.one-item.result c.loop-one-test.true c.one-item.is
    (c.is_same_op.ensures.0 c.if-is_same_op.true)

pub loop-one-preserved : goal.loop-one-preserved
loop-one-preserved c =
    one-more c.args.signed.now c.args.op.now c.loop-one.one-index c.one-item.result c.loop-one-test.true c.one-item.is
    (λ same. not-true-and-false c.is_same_op.result (c.is_same_op.ensures.1 same) c.if-is_same_op.false) c.loop-one.invariant

pub returns-clause-none : goal.returns-clause-none
returns-clause-none c = λ no. none-at-all c.args.signed.now c.args.op.now c.loop-one.one-index c.loop-one-test.false c.loop-one.invariant
