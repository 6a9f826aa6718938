use Rattle.std.proofs.Common.{arith}
use Rattle.dict_proof.proofs.Spellings.{found_spelled, only_spelled}
use Rattle.dict_proof.proofs.reading.read_dict.Goals as goal

pub returns-clause-found : goal.returns-clause-found
returns-clause-found c =
    found_spelled c.args.bytes.now c.whole_list.result (λ i. omega (arith, c.type_inv.bytes i)) c.whole_list.ensures

pub returns-clause-not_form : goal.returns-clause-not_form
returns-clause-not_form c = only_spelled c.args.bytes.now c.whole_list.result c.whole_list.ensures
