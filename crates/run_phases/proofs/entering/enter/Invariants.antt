use Rattle.std.proofs.Common.{take}
use Rattle.run_phases.specs.Phases.{Entered}
use Rattle.run_phases.proofs.entering.enter.Given as goal

abbrev pub invariant-loop-session : goal.invariant-loop-session
invariant-loop-session g l =
    Entered g.D.Digester.digest_of l.server (take l.session-index l.sessions) l.initial.run l.run l.lanes.items
