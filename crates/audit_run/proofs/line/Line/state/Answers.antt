use Rattle.std.proofs.Common.{ap}
use Rattle.audit_run.specs.Line.{History}
use Rattle.audit_run.proofs.Lines.{state-at}
use Rattle.audit_run.proofs.line.Line.state.Goals as goal

pub returns : goal.returns
returns g c =
    state-at c.args.self.now c.self.inside.placed.items c.self.inside.owner c.args.k c.index.result.now
    c.self.invariant.1 (ap (λ (h : History). h.owner) c.self.view_is) (ap (λ (h : History). h.leaves) c.self.view_is)
    c.if-k-eq0.false c.requires c.index.ensures
