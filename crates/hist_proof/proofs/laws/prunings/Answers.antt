use Rattle.hist_proof.proofs.Trees.{prunes-digest, prunes-fits, prunes-texts}
use Rattle.hist_proof.proofs.laws.prunings.Goals as goal

pub returns : goal.returns
returns g c = record {
  fits = prunes-fits g.D.Digester.digest_of;
  digest = prunes-digest g.D.Digester.digest_of;
  texts = prunes-texts g.D.Digester.digest_of;
}
