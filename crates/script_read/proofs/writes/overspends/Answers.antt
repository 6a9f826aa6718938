use Rattle.script_read.specs.Writes.{signatures, writes, overspends}
use Rattle.script_read.proofs.Sums.{none_left}
use Rattle.script_read.proofs.writes.overspends.Goals as goal

pub returns : goal.returns
unfolding overspends
returns c = rw (c.left_in_phases.ensures, c.signatures-room.ensures.value, c.as_slice.ensures) (none_left
    (signatures c.args.user.now.lms) (writes c.args.script.now c.args.user.now.user))
