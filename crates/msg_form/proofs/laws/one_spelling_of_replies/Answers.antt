use Rattle.std.proofs.Common.{sym, ◌∙◌}
use Rattle.msg_form.proofs.Spellings.{reply-one}
use Rattle.msg_form.proofs.laws.one_spelling_of_replies.Goals as goal

pub returns : goal.returns
returns c = record { one_value = reply-one; one_text = λ x a b hx hy. hx.text ∙ sym hy.text }
