use Rattle.std.proofs.Common.{arith}
use Rattle.msg_form.proofs.Spellings.{reply-gives, reply-too-long, reply_found, reply_only}
use Rattle.msg_form.proofs.reading.read_reply.Goals as goal

pub returns-then-bytes-gt-REPLY_BYTES_MAX-clause-exact : goal.returns-then-bytes-gt-REPLY_BYTES_MAX-clause-exact
returns-then-bytes-gt-REPLY_BYTES_MAX-clause-exact c = reply-too-long c.args.bytes.now (omega arith)

pub returns-clause-found : goal.returns-clause-found
returns-clause-found c =
    reply_found c.args.bytes.now c.whole_reply.result (λ i. omega (arith, c.type_inv.bytes i)) (omega arith) c.whole_reply.ensures

pub returns-clause-not_form : goal.returns-clause-not_form
returns-clause-not_form c = reply_only c.args.bytes.now c.whole_reply.result c.whole_reply.ensures

pub returns-clause-exact : goal.returns-clause-exact
returns-clause-exact c = reply-gives c.args.bytes.now c.whole_reply.result (omega arith) c.whole_reply.ensures
