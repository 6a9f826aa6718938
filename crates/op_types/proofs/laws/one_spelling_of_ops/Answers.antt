use Rattle.std.proofs.Common.{sym, ◌∙◌}
use Rattle.op_types.proofs.Ops.{op_text-one}
use Rattle.op_types.proofs.laws.one_spelling_of_ops.Goals as goal

pub returns : goal.returns
returns c = record { one_value = op_text-one; one_text = λ x a b hx hy. hx.text ∙ sym hy.text }
