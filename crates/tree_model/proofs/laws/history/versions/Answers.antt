use Rattle.tree_model.proofs.HistoryLaws.{length-root, root-append, root-length, root-part, root-prefix}
use Rattle.tree_model.proofs.laws.history.versions.Goals as goal

pub returns : goal.returns
returns g c = record {
  value = root-part g.D.Digester.digest_of;
  prefix = root-prefix g.D.Digester.digest_of;
  added = root-append g.D.Digester.digest_of;
  all = root-length g.D.Digester.digest_of;
  size = length-root g.D.Digester.digest_of g.met.D.Digester.has_length;
}
