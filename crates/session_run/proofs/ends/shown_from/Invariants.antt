use Rattle.std.proofs.Common.{◌≡◌, ◌+◌, ◌++◌, ℕ, Some, drop}
use Rattle.std.specs.List.{AllByRecursion}
use Rattle.op_types.specs.declared.op.Leaf.{Leaf}
use Rattle.client_core.specs.Sides.{SideView, side_of, sides_view}
use Rattle.session_laws.specs.Doing.{shown_from}
use Rattle.session_run.proofs.ends.shown_from.Given as goal

abbrev pub invariant-loop-leaf : goal.invariant-loop-leaf
invariant-loop-leaf g l =
    (l.position ≡ l.from + l.leaf-index)
    × ((wall : ℕ) (s : SideView) → side_of wall (sides_view l.client.sides) ≡ Some s
    → AllByRecursion (λ (x : Leaf). x.op.wall ≡ wall) l.leaves
    → shown_from s l.from l.leaves ≡ l.list.items ++ shown_from s l.position (drop l.leaf-index l.leaves))
