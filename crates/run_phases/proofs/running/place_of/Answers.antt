use Rattle.std.proofs.Common.{arith}
use Rattle.run_phases.proofs.Finding.{none-there}
use Rattle.run_phases.proofs.running.place_of.Goals as goal

pub unreachable-requires : goal.unreachable-requires
unreachable-requires g c =
    let none = none-there c.args.user c.args.seats.now
    (λ k e lt. c.loop-place.invariant k e (omega (lt, c.loop-place-test.false, arith))) in
    omega (none, c.requires.known, arith)
