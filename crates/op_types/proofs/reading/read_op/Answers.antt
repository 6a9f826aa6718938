use Rattle.std.proofs.Common.{arith}
use Rattle.op_types.proofs.Readers.{op_is_found, op_is_only}
use Rattle.op_types.proofs.reading.read_op.Goals as goal

pub returns-clause-found : goal.returns-clause-found
returns-clause-found c = op_is_found c.args.bytes.now c.whole_op.result (λ i. omega (arith, c.type_inv.bytes i)) c.whole_op.ensures

pub returns-clause-not_form : goal.returns-clause-not_form
returns-clause-not_form c = op_is_only c.args.bytes.now c.whole_op.result c.whole_op.ensures
