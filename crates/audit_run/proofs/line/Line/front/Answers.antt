use Rattle.std.proofs.Common.{ap}
use Rattle.audit_run.specs.Line.{History}
use Rattle.audit_run.proofs.Lines.{front-more, leaf-at}
use Rattle.audit_run.proofs.line.Line.front.Goals as goal

pub push-requires-clause-spelled : goal.push-requires-clause-spelled
push-requires-clause-spelled g c =
    leaf-at c.self.inside.placed.items c.args.self.now.leaves c.loop-i.i c.leaf.result.now c.self.invariant.2
    (ap (λ (h : History). h.leaves) c.self.view_is) c.leaf.ensures

pub loop-i-preserved : goal.loop-i-preserved
loop-i-preserved g c =
    front-more c.loop-i.line c.push.new.self c.args.self.now c.loop-i.i c.leaf.result.now c.loop-i.invariant
    c.in_ok-push.ensures.added c.leaf.ensures
