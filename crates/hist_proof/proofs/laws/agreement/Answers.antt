use Rattle.hist_proof.proofs.Trees.{agrees, full, glue}
use Rattle.hist_proof.proofs.laws.agreement.Goals as goal

pub returns : goal.returns
returns g c = record {
  digests = agrees g.D.Digester.digest_of g.met.D.Digester.has_length;
  whole = full g.D.Digester.digest_of;
  rest = glue g.D.Digester.digest_of;
}
