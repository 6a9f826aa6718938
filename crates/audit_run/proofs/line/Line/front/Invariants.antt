use Rattle.std.proofs.Common.{◌≡◌, take}
use Rattle.audit_run.proofs.line.Line.front.Given as goal

abbrev pub invariant-loop-i : goal.invariant-loop-i
invariant-loop-i g l = l.line ≡ record l.self { leaves = take l.i l.self.leaves }
