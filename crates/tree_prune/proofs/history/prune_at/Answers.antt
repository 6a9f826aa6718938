use Rattle.tree_prune.proofs.Wants.{marks-listed}
use Rattle.tree_prune.proofs.history.prune_at.Goals as goal

pub returns : goal.returns
returns g c = rw (← marks-listed c.args.positions.now c.args.size) c.whole.ensures
