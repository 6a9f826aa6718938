use Rattle.tree_prune.proofs.LeastLaws.{cuts, prunes, roots, shows}
use Rattle.tree_prune.proofs.history.laws.least_trees.Goals as goal

pub returns : goal.returns
returns g c = record {
  prunes = prunes g.D.Digester.digest_of;
  shows = shows g.D.Digester.digest_of;
  cuts = cuts g.D.Digester.digest_of;
  roots = roots g.D.Digester.digest_of;
}
