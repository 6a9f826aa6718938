use Rattle.std.proofs.Common.{◌≡◌, ◌-◌, drop}
use Rattle.std.specs.List.{sum_by}
use Rattle.script_read.specs.Writes.{session_writes}
use Rattle.script_read.proofs.writes.left_in_phase.Given as goal

-- what is left, without the writes of the sessions to come
abbrev pub invariant-loop-session : goal.invariant-loop-session
invariant-loop-session l = l.left - sum_by (session_writes l.user) (drop l.session-index l.sessions)
    ≡ l.room - sum_by (session_writes l.user) l.sessions
