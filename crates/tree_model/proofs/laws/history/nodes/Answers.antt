use Rattle.tree_model.proofs.HistoryLaws.{length-part, part-leaf, part-pair, part-single}
use Rattle.tree_model.proofs.laws.history.nodes.Goals as goal

pub returns : goal.returns
returns g c = record {
  leaf = part-leaf g.D.Digester.digest_of;
  single = part-single g.D.Digester.digest_of;
  pair = part-pair g.D.Digester.digest_of;
  size = length-part g.D.Digester.digest_of g.met.D.Digester.has_length;
}
