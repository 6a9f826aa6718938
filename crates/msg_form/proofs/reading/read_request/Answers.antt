use Rattle.std.proofs.Common.{arith}
use Rattle.msg_form.proofs.Spellings.{request_found, request_only}
use Rattle.msg_form.proofs.reading.read_request.Goals as goal

pub returns-clause-found : goal.returns-clause-found
returns-clause-found c = request_found c.args.bytes.now c.whole_request.result (λ i. omega (arith, c.type_inv.bytes i)) c.whole_request.ensures

pub returns-clause-not_form : goal.returns-clause-not_form
returns-clause-not_form c = request_only c.args.bytes.now c.whole_request.result c.whole_request.ensures
