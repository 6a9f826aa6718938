use Rattle.std.proofs.Common.{◌≡◌, map, take}
use Rattle.op_types.specs.Spelling.{leaf_text}
use Rattle.audit_run.proofs.line.Line.texts.Given as goal

abbrev pub invariant-loop-k : goal.invariant-loop-k
invariant-loop-k g l = l.texts.items ≡ take l.k (map leaf_text l.self.leaves)
