use Rattle.std.proofs.Common.{arith}
use Rattle.op_types.proofs.Readers.{leaf_is_found, leaf_is_only}
use Rattle.op_types.proofs.reading.read_leaf.Goals as goal

pub returns-clause-found : goal.returns-clause-found
returns-clause-found c = leaf_is_found c.args.bytes.now c.whole_leaf.result (λ i. omega (arith, c.type_inv.bytes i)) c.whole_leaf.ensures

pub returns-clause-not_form : goal.returns-clause-not_form
returns-clause-not_form c = leaf_is_only c.args.bytes.now c.whole_leaf.result c.whole_leaf.ensures
