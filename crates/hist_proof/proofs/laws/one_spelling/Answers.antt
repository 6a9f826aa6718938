use Rattle.hist_proof.proofs.Spellings.{digests_spelled, one_text, one_value}
use Rattle.hist_proof.proofs.laws.one_spelling.Goals as goal

pub returns : goal.returns
returns c = record { one_value = one_value; one_text = one_text; digests = digests_spelled }
