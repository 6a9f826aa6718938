use Rattle.std.proofs.Common.{◌∙◌}
use Rattle.op_types.proofs.LeafTexts.{none_behind, op_of_text}
use Rattle.op_types.proofs.written.op_part.Goals as goal

pub returns-then-text-lt-OP_PLACE-clause-bytes : goal.returns-then-text-lt-OP_PLACE-clause-bytes
returns-then-text-lt-OP_PLACE-clause-bytes c = none_behind c.args.text.now c.if-text-lt-OP_PLACE.true

pub returns-then-text-lt-OP_PLACE-clause-op : goal.returns-then-text-lt-OP_PLACE-clause-op
returns-then-text-lt-OP_PLACE-clause-op c = λ leaf h. none_behind c.args.text.now c.if-text-lt-OP_PLACE.true ∙ op_of_text c.args.text.now leaf h

pub returns-clause-op : goal.returns-clause-op
returns-clause-op c = λ leaf h. c.split_at.ensures.back ∙ op_of_text c.args.text.now leaf h
