use Rattle.tree_extract.proofs.Differences.{texts-decided}
use Rattle.tree_extract.proofs.lists.is_same.Goals as goal

pub returns : goal.returns
returns c = rw c.eq.ensures (texts-decided c.args.a.now c.args.b.now)
