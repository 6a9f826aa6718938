use Rattle.std.proofs.Common.{arith, rules}
use Rattle.audit_run.proofs.Places.{same-places}
use Rattle.audit_run.proofs.same.are_same_wraps.Goals as goal

pub returns : goal.returns
returns c = (
  λ yes. same-places c.args.a.now c.args.b.now c.loop-i.invariant.0
      (λ k less. c.loop-i.invariant.1 k (let past = c.loop-i-test.false in omega (arith, less))),
  λ same. search rules,
)
