use Rattle.std.proofs.Common.{[], ◌∷◌, drop}
use Rattle.op_types.specs.declared.op.Leaf.{Leaf}
use Rattle.audit_run.specs.Unsigned.{IsSearched}
use Rattle.audit_run.proofs.Searching.{Rest}
use Rattle.audit_run.proofs.unsigned.unsigned_leaf.Given as goal

abbrev pub invariant-loop-leaf : goal.invariant-loop-leaf
invariant-loop-leaf l = Rest (IsSearched l.world) (λ (x : Leaf). x ∷ []) (drop l.leaf-index l.leaves) l.leaves
