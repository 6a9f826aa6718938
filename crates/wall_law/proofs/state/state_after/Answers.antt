use Rattle.std.proofs.Common.{◌+◌}
use Rattle.tree_model.proofs.ListChanges.{rising-changed_set}
use Rattle.wall_law.specs.State.{change_of}
use Rattle.wall_law.proofs.state.state_after.Goals as goal

pub returns-clause-rising : goal.returns-clause-rising
returns-clause-rising c = λ h.
    rw (c.of.ensures, c.in_ok-list.ensures) (rising-changed_set c.args.state.now.entries c.args.op.now.author (c.args.op.now.seq + 1) (change_of c.args.op.now.kind) h)
