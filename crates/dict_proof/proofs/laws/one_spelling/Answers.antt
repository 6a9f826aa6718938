use Rattle.dict_proof.proofs.Spellings.{digests_spelled, one_text, one_value, size_spelled}
use Rattle.dict_proof.proofs.laws.one_spelling.Goals as goal

pub returns : goal.returns
returns c = record { one_value = one_value; one_text = one_text; digests = digests_spelled; size = size_spelled }
