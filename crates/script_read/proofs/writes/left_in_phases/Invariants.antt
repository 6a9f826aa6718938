use Rattle.std.proofs.Common.{◌≡◌, ◌-◌, drop}
use Rattle.std.specs.List.{sum_by}
use Rattle.script_read.specs.Writes.{phase_writes}
use Rattle.script_read.proofs.writes.left_in_phases.Given as goal

-- what is left, without the writes of the phases to come
abbrev pub invariant-loop-phase : goal.invariant-loop-phase
invariant-loop-phase l = l.left - sum_by (phase_writes l.user) (drop l.phase-index l.phases)
    ≡ l.room - sum_by (phase_writes l.user) l.phases
