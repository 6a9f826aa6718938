use Rattle.std.proofs.Common.{◌≡◌, length}
use Rattle.fr_edges.proofs.wire.straight_wires.Given as goal

abbrev pub invariant-loop : goal.invariant-loop
invariant-loop l = length l.wires.items ≡ l.counter
