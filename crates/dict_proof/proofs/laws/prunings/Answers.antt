use Rattle.dict_proof.proofs.Prunings.{finds, keeps}
use Rattle.dict_proof.proofs.laws.prunings.Goals as goal

pub returns : goal.returns
returns g c = record { finds = finds g.D.Digester.digest_of; keeps = keeps g.D.Digester.digest_of }
