use Rattle.std.proofs.Common.{sym, ◌∙◌}
use Rattle.msg_form.proofs.Spellings.{request-one}
use Rattle.msg_form.proofs.laws.one_spelling_of_requests.Goals as goal

pub returns : goal.returns
returns c = record { one_value = request-one; one_text = λ x a b hx hy. hx.text ∙ sym hy.text }
