use Rattle.std.proofs.Common.{◌≡◌, ◌+◌, drop}
use Rattle.client_core.specs.Sides.{place_of, sides_view}
use Rattle.client_core.proofs.side.place_of.Given as goal

-- what is left to pass
abbrev pub invariant-loop-i : goal.invariant-loop-i
invariant-loop-i l = l.i + place_of l.wall (sides_view (drop l.i l.sides)) ≡ place_of l.wall (sides_view l.sides)
