use Rattle.pruned_list.proofs.Found.{whole-finds}
use Rattle.pruned_list.proofs.Heaps.{whole-treap}
use Rattle.pruned_list.proofs.Prunings.{whole-in_order, whole-same}
use Rattle.pruned_list.proofs.Wholes.{changed-whole}
use Rattle.pruned_list.proofs.laws.wholes.Goals as goal

pub returns : goal.returns
returns g c = record {
  entries = whole-in_order g.D.Digester.digest_of;
  treap = whole-treap g.D.Digester.digest_of;
  one = whole-same g.D.Digester.digest_of;
  finds = whole-finds g.D.Digester.digest_of;
  changed = changed-whole;
}
