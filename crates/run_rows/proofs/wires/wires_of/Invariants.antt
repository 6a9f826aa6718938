use Rattle.std.proofs.Common.{◌≡◌, ◌+◌, length}
use Rattle.run_rows.proofs.wires.wires_of.Given as goal

abbrev pub invariant-loop-session : goal.invariant-loop-session
invariant-loop-session l = length l.found.items + 1 ≡ l.session-counter
