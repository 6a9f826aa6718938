use Rattle.hist_tree.proofs.Nodes.{node-older, node-pair, node-single, node-top}
use Rattle.hist_tree.proofs.laws.nodes.Goals as goal

pub returns : goal.returns
returns g c = record {
  top = node-top g.D.Digester.digest_of;
  single = node-single g.D.Digester.digest_of;
  pair = node-pair g.D.Digester.digest_of;
  older = node-older;
}
