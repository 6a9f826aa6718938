use Rattle.std.proofs.Common.{rules}
use Rattle.script_read.specs.Writes.{session_writes}
use Rattle.script_read.proofs.Sums.{taken_more, taken_all}
use Rattle.script_read.proofs.writes.left_in_phase.Goals as goal

pub loop-session-preserved : goal.loop-session-preserved
loop-session-preserved c =
    taken_more (session_writes c.args.user) c.loop-session.session-index c.args.sessions.now
    c.session-item.result c.loop-session.left _ _ c.loop-session-test.true c.session-item.is
    (search rules) c.loop-session.invariant

pub returns : goal.returns
returns c = taken_all
    (session_writes c.args.user) c.loop-session.session-index c.args.sessions.now c.loop-session.left _
    c.loop-session-test.false c.loop-session.invariant
