use Rattle.hall_core.proofs.Honesty.{honest-call, honest-kept, honest-nil}
use Rattle.hall_core.proofs.laws.honesty.Goals as goal

pub returns : goal.returns
returns g c = record {
  empty = honest-nil g.D.Digester.digest_of;
  call = honest-call g.D.Digester.digest_of;
  play = honest-kept g.D.Digester.digest_of;
}
