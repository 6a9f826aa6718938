use Rattle.std.proofs.Common.{rules}
use Rattle.script_read.specs.Writes.{phase_writes}
use Rattle.script_read.proofs.Sums.{taken_more, taken_all}
use Rattle.script_read.proofs.writes.left_in_phases.Goals as goal

pub loop-phase-preserved : goal.loop-phase-preserved
loop-phase-preserved c =
    taken_more (phase_writes c.args.user) c.loop-phase.phase-index c.args.phases.now c.phase-item.result
    c.loop-phase.left _ _ c.loop-phase-test.true c.phase-item.is (search rules) c.loop-phase.invariant

pub returns : goal.returns
returns c = taken_all
    (phase_writes c.args.user) c.loop-phase.phase-index c.args.phases.now c.loop-phase.left _
    c.loop-phase-test.false c.loop-phase.invariant
