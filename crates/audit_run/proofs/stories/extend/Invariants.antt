use Rattle.std.proofs.Common.{◌≡◌, ◌+◌, ◌++◌, ℕ, List, length, take}
use Rattle.op_types.specs.declared.op.Leaf.{Leaf}
use Rattle.world_book.specs.declared.world.World.{World}
use Rattle.audit_run.specs.Table.{AreOf, Begins, Grows}
use Rattle.audit_run.proofs.stories.extend.Given as goal

abbrev pub invariant-loop-leaf : goal.invariant-loop-leaf
invariant-loop-leaf g l = (l.k ≡ l.from + l.leaf-index) × (Grows l.initial.lines.items l.lines.items)
    × ((wall : ℕ) (M : List Leaf) → Begins l.initial.lines.items wall l.initial.line M → length M ≡ l.from
    → Begins l.lines.items wall l.line (M ++ take l.leaf-index l.leaves))
    × ((w : World) → AreOf w l.initial.lines.items → AreOf w l.lines.items)
