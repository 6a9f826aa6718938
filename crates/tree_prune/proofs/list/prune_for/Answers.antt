use Rattle.dict_proof.specs.View.{change_view}
use Rattle.tree_prune.proofs.LeastLists.{least-open, least-prunes, least-same}
use Rattle.tree_prune.proofs.list.prune_for.Goals as goal

pub returns : goal.returns
returns g c = record {
  least = least-same g.D.Digester.digest_of c.args.author (change_view c.args.change) c.args.d.now c.root.result.now c.least_of.result c.root.ensures.whole c.root.ensures.treap c.least_of.ensures;
  prunes = least-prunes g.D.Digester.digest_of c.args.author (change_view c.args.change) c.args.d.now c.root.result.now c.least_of.result c.root.ensures.treap c.least_of.ensures;
  meets = least-open g.D.Digester.digest_of c.args.author (change_view c.args.change) c.args.d.now c.root.result.now c.least_of.result c.root.ensures.rising c.requires.fits c.root.ensures.whole c.root.ensures.treap c.least_of.ensures;
}
