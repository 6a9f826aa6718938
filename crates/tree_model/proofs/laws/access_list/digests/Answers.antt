use Rattle.tree_model.proofs.AccessLists.{length-dict, set_digest-cons, set_digest-dict, set_digest-top}
use Rattle.tree_model.proofs.laws.access_list.digests.Goals as goal

pub returns : goal.returns
returns g c = record {
  node = set_digest-cons g.D.Digester.digest_of;
  top = set_digest-top g.D.Digester.digest_of;
  list = set_digest-dict g.D.Digester.digest_of;
  size = length-dict g.D.Digester.digest_of g.met.D.Digester.has_length;
}
