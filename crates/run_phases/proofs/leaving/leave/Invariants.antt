use Rattle.std.proofs.Common.{◌≡◌, ◌++◌, map}
use Rattle.session_run.specs.declared.lane.Lane.{Lane}
use Rattle.run_phases.specs.Phases.{outcomes_in}
use Rattle.run_phases.proofs.leaving.leave.Given as goal

abbrev pub invariant-loop-lane : goal.invariant-loop-lane
invariant-loop-lane g l =
    (l.run.clients.items ≡ l.initial.run.clients.items ++ map (λ (x : Lane _ _). x.session.client) l.yielded)
    × (l.run.seats.items ≡ l.initial.run.seats.items ++ map (λ (x : Lane _ _). x.session.seats) l.yielded)
    × (l.run.outcomes.items ≡ l.initial.run.outcomes.items ++ outcomes_in l.yielded)
    × (l.run.wires ≡ l.initial.run.wires)
    × (l.wires.items ≡ map (λ (x : Lane _ _). x.wire) l.yielded)
