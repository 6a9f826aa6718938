use Rattle.dict_proof.proofs.Staying.{changed_some}
use Rattle.dict_proof.proofs.laws.some_entry.Goals as goal

pub returns : goal.returns
returns c = changed_some
