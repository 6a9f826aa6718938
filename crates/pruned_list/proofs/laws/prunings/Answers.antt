use Rattle.pruned_list.proofs.Prunings.{digest-dict, digest-set, seek-finds}
use Rattle.pruned_list.proofs.laws.prunings.Goals as goal

pub returns : goal.returns
returns g c = record {
  digest = digest-set g.D.Digester.digest_of;
  list = digest-dict g.D.Digester.digest_of;
  finds = seek-finds g.D.Digester.digest_of;
}
