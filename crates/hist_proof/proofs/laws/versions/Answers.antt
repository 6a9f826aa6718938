use Rattle.hist_proof.proofs.Trees.{at-all, at-none, at-root, cut-all, cut-exactly}
use Rattle.hist_proof.proofs.laws.versions.Goals as goal

pub returns : goal.returns
returns g c = record {
  exactly = cut-exactly;
  all = cut-all;
  root = at-root g.D.Digester.digest_of;
  none = at-none g.D.Digester.digest_of;
  whole = at-all g.D.Digester.digest_of;
}
