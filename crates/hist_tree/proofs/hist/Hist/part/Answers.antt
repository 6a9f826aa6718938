use Rattle.std.proofs.Common.{arith}
use Rattle.hist_tree.proofs.Nodes.{height-fits}
use Rattle.hist_tree.proofs.hist.Hist.part.Goals as goal

pub node-requires-clause-levels : goal.node-requires-clause-levels
node-requires-clause-levels g c = height-fits c.args.size c.args.level (let fits = c.ranges.size.fits in omega
    arith) c.requires.height
