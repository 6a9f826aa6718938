use Rattle.std.proofs.Common.{sym, ◌∙◌}
use Rattle.op_types.proofs.Ops.{leaf_text-one, leaf_texts-one}
use Rattle.op_types.proofs.laws.one_spelling_of_leaves.Goals as goal

pub returns : goal.returns
returns c = record { one_value = leaf_text-one; one_text = λ x a b hx hy. hx.text ∙ sym hy.text; lists = leaf_texts-one }
