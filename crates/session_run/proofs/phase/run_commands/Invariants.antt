use Rattle.std.proofs.Common.{◌≡◌, ◌+◌, [], drop, take}
use Rattle.hall_server.specs.Seating.{IsSeatsOf}
use Rattle.hall_server.specs.Sights.{user_of}
use Rattle.session_laws.specs.Doing.{tasks_of}
use Rattle.session_laws.specs.Lanes.{LaneRun}
use Rattle.session_laws.specs.Readiness.{CanDo}
use Rattle.session_run.specs.Views.{client_of, told}
use Rattle.session_run.proofs.phase.run_commands.Given as goal

abbrev pub invariant-loop-command : goal.invariant-loop-command
invariant-loop-command g l =
    LaneRun g.D.Digester.digest_of (user_of l.initial.seats)
    (told l.initial.client l.initial.seats (g.W.Wire.view l.initial.wire) [])
    (told l.client l.seats (g.W.Wire.view l.wire) l.outcomes.items)
    (take l.command-index (tasks_of l.phase l.number (user_of l.initial.seats) l.fn.session.commands))
    × CanDo (client_of l.client) (drop l.command-index l.fn.session.commands)
    × IsSeatsOf g.D.Digester.digest_of l.server l.seats
    × (user_of l.seats ≡ user_of l.initial.seats)
    × (l.place ≡ record { phase = l.phase; session = l.number; command = l.command-index + 1 })
