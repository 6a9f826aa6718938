use Rattle.tree_model.proofs.Treaps.{treap-of_set, treap-same, treap_digest-set, treap_digest-dict}
use Rattle.tree_model.proofs.laws.access_list.treaps.Goals as goal

pub returns : goal.returns
returns g c = record {
  some = treap-of_set;
  one = treap-same;
  digest = treap_digest-set g.D.Digester.digest_of;
  dict = treap_digest-dict g.D.Digester.digest_of;
}
